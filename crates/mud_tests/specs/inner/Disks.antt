-- The contents of a disk in memory, now and before each of its calls.
use Rattle.std.specs.Prelude.{◌≡◌, ◌⊎◌, ℕ, Bool, List, [], ◌∷◌, Option, Some, None, ◌++◌, length, drop, if◌then◌else◌}
use Rattle.std.proofs.Common.{inl, inr, arith, subst}
use Rattle.std.proofs.lemmas.List.{drop_all}
use Rattle.mud_journal.specs.Disk.{Kept}
use Rattle.mud_journal.specs.Crash.{AreThere, IsLeft}
use Rattle.mud_tests.specs.declared.disk.Image.{Image}

-- the bytes written to it, if any, and the number of synced ones; nothing is known about its earlier bytes
abbrev pub kept_of : (is_made : Bool) → (synced unsynced : List ℕ) → Option Kept
kept_of is_made synced unsynced =
    if is_made then Some (record { appended = synced ++ unsynced; synced = synced }) else None

abbrev pub kept_in : Image → Option Kept
kept_in image = kept_of image.is_made image.synced.items image.unsynced.items

-- the images before a call, and after it; unless memory ran out there is one more, with these contents
abbrev pub Remembers : List Image → List Image → Bool → List ℕ → List ℕ → Type 0
Remembers old new is_made synced unsynced =
    (new ≡ old)
    ⊎ ((image : Image) × (new ≡ old ++ image ∷ []) × (kept_in image ≡ kept_of is_made synced unsynced))

-- contents that a crash may have left at one of these moments
abbrev pub HadLeft : List Image → List ℕ → Type 0
HadLeft [] bytes = ⊥
HadLeft (image ∷ images) bytes = IsLeft AreThere (kept_in image) bytes ⊎ HadLeft images bytes

-- contents that a crash may have left since this many calls, or may leave now
abbrev pub LeftSince : Bool → List ℕ → List ℕ → List Image → ℕ → List ℕ → Type 0
LeftSince is_made synced unsynced past calls bytes =
    IsLeft AreThere (kept_of is_made synced unsynced) bytes ⊎ HadLeft (drop calls past) bytes

pub left_now : (is_made : Bool) (synced unsynced : List ℕ) (past : List Image) (bytes : List ℕ)
    → LeftSince is_made synced unsynced past (length past) bytes
    → IsLeft AreThere (kept_of is_made synced unsynced) bytes
left_now is_made synced unsynced past bytes (inl now) = now
left_now is_made synced unsynced past bytes (inr was) =
    absurd (subst (λ images. HadLeft images bytes) (drop_all (length past) past (omega arith)) was)
