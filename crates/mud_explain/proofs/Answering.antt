-- An input is explained line by line.
use Rattle.std.proofs.Common.{◌≡◌, ℕ, ◌<◌, List, [], ◌∷◌, ◌++◌, length, sym, ◌∙◌, ap, subst, append_assoc}
use Rattle.std.proofs.lemmas.List.{append-nil}
use Rattle.mud_nvt.specs.declared.codes.TheConstants.{LF}
use Rattle.mud_explain.specs.Lines.{Answers, at_end, last, next}
use Rattle.mud_explain.specs.inner.Lines.{AnswersOne}
use Rattle.mud_key.specs.Lines.{HasNoLineFeed}

-- the explanation of the whole input, given that of the rest
abbrev pub GoesOn : (List ℕ → List ℕ → Type 0) → List ℕ → List ℕ → List ℕ → Type 0
GoesOn Says input rest out = (later : List ℕ) → Answers Says rest later → Answers Says input (out ++ later)

-- one more line is explained
pub goes_on-next : (Says : List ℕ → List ℕ → Type 0) (input rest line behind old new : List ℕ)
    → GoesOn Says input rest old → HasNoLineFeed line → rest ≡ line ++ LF ∷ behind → AnswersOne Says line old new
    → GoesOn Says input behind new
goes_on-next Says input rest line behind old new on whole cut one later answers =
    let P : List ℕ → Type 0 = λ r. Answers Says r (one.answer ++ LF ∷ later) in
    let here : Answers Says rest (one.answer ++ LF ∷ later) = subst P (sym cut) (next whole one.says answers) in
    let Q : List ℕ → Type 0 = λ o. Answers Says input o in
    let shape : old ++ (one.answer ++ LF ∷ later) ≡ new ++ later =
    ap (λ t. old ++ t) (sym (append_assoc one.answer (LF ∷ []) later))
    ∙ sym (append_assoc old (one.answer ++ LF ∷ []) later) ∙ ap (λ t. t ++ later) (sym one.appended) in
    subst Q shape (on (one.answer ++ LF ∷ later) here)

-- all lines had line ends
pub goes_on-end : (Says : List ℕ → List ℕ → Type 0) (input rest out : List ℕ) → GoesOn Says input rest out → rest ≡ []
    → Answers Says input out
goes_on-end Says input rest out on empty =
    let P : List ℕ → Type 0 = λ r. Answers Says r [] in
    let Q : List ℕ → Type 0 = λ o. Answers Says input o in
    subst Q (append-nil out) (on [] (subst P (sym empty) at_end))

-- the last line has no LF
pub goes_on-last : (Says : List ℕ → List ℕ → Type 0) (input rest old new : List ℕ)
    → GoesOn Says input rest old → 0 < length rest → HasNoLineFeed rest → AnswersOne Says rest old new
    → Answers Says input new
goes_on-last Says input rest old new on some whole one =
    let Q : List ℕ → Type 0 = λ o. Answers Says input o in
    subst Q (sym one.appended) (on (one.answer ++ LF ∷ []) (last some whole one.says))
