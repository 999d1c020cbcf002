-- Texts appended one after another.
use Rattle.std.proofs.Common.{◌≡◌, ℕ, List, ◌++◌, Result, Ok, Err, OnOk, ◌∙◌, ap, append_assoc}

-- two texts were appended
pub both : {T E : Type 0} (r : Result T E) (out mid new front back : List ℕ) → mid ≡ out ++ front
    → OnOk r (new ≡ mid ++ back) → OnOk r (new ≡ out ++ (front ++ back))
both (Ok x) out mid new front back first second = second ∙ ap (λ t. t ++ back) first ∙ append_assoc out front back
both (Err e) out mid new front back first second = tt
