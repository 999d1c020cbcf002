-- The moments of a disk in memory, and the contents that a crash may have left at them.
use Rattle.std.proofs.Common.{◌≡◌, ◌⊎◌, inl, inr, ℕ, zero, suc, ◌≤◌, List, [], ◌∷◌, ◌++◌, length, drop, Bool, true}
use Rattle.std.proofs.Common.{false, Some, sym, subst, ap, ◌∙◌, append_assoc, arith}
use Rattle.std.proofs.lemmas.List.{append-nil, length-append}
use mathlib.Core.List.{IsPrefix}
use Rattle.mud_journal.specs.Disk.{made}
use Rattle.mud_journal.specs.Crash.{AreThere, IsLeft, Elapses}
use Rattle.mud_tests.specs.declared.disk.Image.{Image}
use Rattle.mud_tests.specs.inner.Disks.{kept_of, kept_in, Remembers, HadLeft, LeftSince}

-- a moment before the last call, or the last one
earlier : (image : Image) (images : List Image) (calls : ℕ) (bytes : List ℕ) → calls ≤ length images
    → HadLeft (drop calls (images ++ image ∷ [])) bytes
    → HadLeft (drop calls images) bytes ⊎ IsLeft AreThere (kept_in image) bytes
earlier image [] calls bytes few was = go calls few was
  where
    go : (n : ℕ) → n ≤ 0 → HadLeft (drop n (image ∷ [])) bytes
        → HadLeft (drop n []) bytes ⊎ IsLeft AreThere (kept_in image) bytes
    go zero few (inl here) = inr here
    go zero few (inr none) = absurd none
    go (suc n) few was = absurd (omega (arith, few))
earlier image (other ∷ images) zero bytes few (inl here) = inl (inl here)
earlier image (other ∷ images) zero bytes few (inr was) = go (earlier image images 0 bytes (omega arith) was)
  where
    go : HadLeft images bytes ⊎ IsLeft AreThere (kept_in image) bytes
        → HadLeft (other ∷ images) bytes ⊎ IsLeft AreThere (kept_in image) bytes
    go (inl was) = inl (inr was)
    go (inr here) = inr here
earlier image (other ∷ images) (suc n) bytes few was = earlier image images n bytes (omega (arith, few)) was

-- a call of a disk with these contents before it and after it
pub called : (m : Bool) (s u : List ℕ) (m2 : Bool) (s2 u2 : List ℕ) (old new : List Image) (P : List ℕ → Type 0)
    → Remembers old new m s u
    → ((bytes : List ℕ) → IsLeft AreThere (kept_of m2 s2 u2) bytes
    → IsLeft AreThere (kept_of m s u) bytes ⊎ P bytes)
    → Elapses (length old) (length new) (LeftSince m s u old) (LeftSince m2 s2 u2 new) P
called m s u m2 s2 u2 old new P kept leaves = record { later = later kept; only = only kept }
  where
    later : Remembers old new m s u → length old ≤ length new
    later (inl same) = omega (arith, ap length same)
    later (inr (image, more, is)) = omega (arith, ap length more, length-append old (image ∷ []))

    now : (calls : ℕ) (bytes : List ℕ) → IsLeft AreThere (kept_of m s u) bytes ⊎ P bytes
        → LeftSince m s u old calls bytes ⊎ P bytes
    now calls bytes (inl here) = inl (inl here)
    now calls bytes (inr after) = inr after

    one : (image : Image) → kept_in image ≡ kept_of m s u → (calls : ℕ) (bytes : List ℕ)
        → HadLeft (drop calls old) bytes ⊎ IsLeft AreThere (kept_in image) bytes
        → LeftSince m s u old calls bytes ⊎ P bytes
    one image is calls bytes (inl was) = inl (inr was)
    one image is calls bytes (inr here) = inl (inl (subst (λ k. IsLeft AreThere k bytes) is here))

    only : Remembers old new m s u → (calls : ℕ) (bytes : List ℕ) → calls ≤ length old
        → LeftSince m2 s2 u2 new calls bytes → LeftSince m s u old calls bytes ⊎ P bytes
    only kept calls bytes few (inl here) = now calls bytes (leaves bytes here)
    only (inl same) calls bytes few (inr was) =
        inl (inr (subst (λ images. HadLeft (drop calls images) bytes) same was))
    only (inr (image, more, is)) calls bytes few (inr was) =
        one image is calls bytes
        (earlier image old calls bytes few (subst (λ images. HadLeft (drop calls images) bytes) more was))

-- equal contents
pub equal : (m m2 : Bool) (s s2 u u2 : List ℕ) → m2 ≡ m → s2 ≡ s → u2 ≡ u → kept_of m2 s2 u2 ≡ kept_of m s u
equal m m2 s s2 u u2 same_m same_s same_u = cc

pub same : (m m2 : Bool) (s s2 u u2 bytes : List ℕ) → m2 ≡ m → s2 ≡ s → u2 ≡ u
    → IsLeft AreThere (kept_of m2 s2 u2) bytes → IsLeft AreThere (kept_of m s u) bytes
same m m2 s s2 u u2 bytes same_m same_s same_u left =
    subst (λ k. IsLeft AreThere k bytes) (equal m m2 s s2 u u2 same_m same_s same_u) left

-- a crash after a sync leaves contents that were possible before it
pub synced : (m m2 : Bool) (s u all none : List ℕ) (bytes : List ℕ) → m2 ≡ m → all ≡ s ++ u → none ≡ []
    → IsLeft AreThere (kept_of m2 all none) bytes → IsLeft AreThere (kept_of m s u) bytes
synced m false s u all none bytes same_m is empty left = subst (λ b. IsLeft AreThere (kept_of b s u) bytes) same_m tt
synced m true s u all none bytes same_m is empty left =
    let whole : all ++ none ≡ s ++ u = ap (λ t. all ++ t) empty ∙ append-nil all ∙ is in
    subst (λ b. IsLeft AreThere (kept_of b s u) bytes) same_m (
      (u ++ left.0.0, sym (append_assoc s u left.0.0) ∙ ap (λ t. t ++ left.0.0) (sym is) ∙ left.0.1),
      subst (λ t. AreThere t bytes) whole left.1,
    )

-- a file that was replaced
pub replaced : (s u all bytes : List ℕ) → s ≡ all → u ≡ [] → IsLeft AreThere (kept_of true s u) bytes
    → IsLeft AreThere (Some (made all)) bytes
replaced s u all bytes is empty left =
    let whole : s ++ u ≡ all = ap (λ t. s ++ t) empty ∙ append-nil s ∙ is in
    (subst (λ t. IsPrefix t bytes) is left.0, subst (λ t. AreThere t bytes) whole left.1)
