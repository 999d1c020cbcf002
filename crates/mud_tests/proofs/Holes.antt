-- The bytes left of written ones, byte by byte.
use Rattle.std.proofs.Common.{◌≡◌, ◌⊎◌, inl, inr, ℕ, ◌<◌, List, [], ◌∷◌, ◌++◌, length, get_or, refl, arith}
use Rattle.std.proofs.Common.{Bool, true, false, Some, None, sym, subst}
use Rattle.std.specs.Prelude.{if◌then◌else◌}
use Rattle.mud_journal.specs.Crash.{AreThere, IsLeft}

-- one more byte
pub one_more : (written bytes : List ℕ) (b : ℕ) → AreThere written bytes
    → (length bytes < length written) × (b ≡ get_or written (length bytes) 0) ⊎ (b ≡ 0)
    → AreThere written (bytes ++ b ∷ [])
one_more [] [] b there (inl (lt, is)) = absurd (omega (arith, lt))
one_more [] [] b there (inr hole) = (hole, tt)
one_more [] (c ∷ bytes) b (hole, there) (inl (lt, is)) = absurd (omega (arith, lt))
one_more [] (c ∷ bytes) b (hole, there) (inr zero) = (hole, one_more [] bytes b there (inr zero))
one_more (a ∷ written) [] b there (inl (lt, is)) = (inl is, tt)
one_more (a ∷ written) [] b there (inr hole) = (inr hole, tt)
one_more (a ∷ written) (c ∷ bytes) b (same, there) (inl (lt, is)) =
    (same, one_more written bytes b there (inl (omega (arith, lt), is)))
one_more (a ∷ written) (c ∷ bytes) b (same, there) (inr hole) = (same, one_more written bytes b there (inr hole))

-- after bytes that are there
pub behind : (synced written bytes : List ℕ) → AreThere written bytes → AreThere (synced ++ written) (synced ++ bytes)
behind [] written bytes there = there
behind (a ∷ synced) written bytes there = (inl refl, behind synced written bytes there)

-- the contents of a disk after a crash
pub left_of : (is_made : Bool) (synced unsynced more bytes : List ℕ) → AreThere unsynced more → bytes ≡ synced ++ more
    → IsLeft AreThere (if is_made then Some (record { appended = synced ++ unsynced; synced = synced }) else None) bytes
left_of false synced unsynced more bytes there is = tt
left_of true synced unsynced more bytes there is =
    ((more, sym is), subst (AreThere (synced ++ unsynced)) (sym is) (behind synced unsynced more there))
