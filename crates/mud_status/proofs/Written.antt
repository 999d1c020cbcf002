-- Appended texts, put together.
use Rattle.std.proofs.Common.{◌≡◌, List, ℕ, Result, Ok, Err, OnOk, ◌∙◌}

pub then_ok : {T E : Type 0} (r : Result T E) (new mid goal : List ℕ) → OnOk r (new ≡ mid) → mid ≡ goal
    → OnOk r (new ≡ goal)
then_ok (Ok x) new mid goal is same = is ∙ same
then_ok (Err e) new mid goal is same = is
