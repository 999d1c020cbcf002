-- Texts appended one after another.
use Rattle.std.proofs.Common.{◌≡◌, ℕ, List, ◌++◌, append_assoc}

pub three_after : (old a b c : List ℕ) {x y z : List ℕ} → x ≡ old ++ a → y ≡ x ++ b → z ≡ y ++ c
    → z ≡ old ++ (a ++ (b ++ c))
three_after old a b c first then last = rw (last, then, first, append_assoc, append_assoc)
