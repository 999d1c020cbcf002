-- The output after a failed write.
use Rattle.std.proofs.Common.{◌≡◌, ℕ, List, take, drop, Option, Some, None, IfSome, subst, take-append-drop}
use Rattle.std.specs.Io.KnownBytes.{Appends}
use Rattle.mud_cli.specs.declared.subject.Subject.{Subject}
use Rattle.mud_explain.specs.Explanation.{Explains, WritesFront}

-- a prefix of the explanation was written
pub front-written : (subject : Subject) (known held now_held : Option (List ℕ)) (input out : List ℕ) (n : ℕ)
    → IfSome known (λ bytes. input ≡ bytes) → Explains subject input out → Appends held now_held (take n out)
    → IfSome known (λ bytes. WritesFront subject bytes held now_held)
front-written subject None held now_held input out n is explains appends = tt
front-written subject (Some bytes) held now_held input out n is explains appends =
    let whole : Explains subject bytes out = subst (λ (i : List ℕ). Explains subject i out) is explains in
    (out, take n out, whole, (drop n out, take-append-drop n out), appends)
