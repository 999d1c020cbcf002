use Rattle.std.proofs.Common.{◌≡◌, ◌++◌, ◌∷◌, [], ℕ, List, decimal, string_bytes, ◌+◌, ◌/◌, ◌%◌}
use Rattle.std.proofs.Common.{arith, ap, ◌∙◌, sym, subst}
use Rattle.std.proofs.lemmas.Fmt.{decimal_step}
use Rattle.std.proofs.lemmas.List.{append_assoc}
use Rattle.std.specs.Prelude.{OnOk}
use Rattle.mud_rules.proofs.listing.+push_number.Goals as goal

pub returns : goal.returns
returns t c =
    let text : List ℕ = string_bytes c.args.text.now in
    let last : List ℕ = (48 + c.args.number % 10) ∷ [] in
    let P : List ℕ → Type 0 = λ bytes. OnOk c.push_digit-2.result (string_bytes c.push_digit-2.new.text ≡ bytes) in
    let all : List ℕ = decimal c.args.number in
    let digits : all ≡ decimal (c.args.number / 10) ++ last = decimal_step c.args.number (omega arith) (omega arith) in
    subst P (ap (λ front. front ++ last) c.in_ok-push_number.ensures ∙ append_assoc text _ last
    ∙ ap (λ bytes. text ++ bytes) (sym digits)) c.push_digit-2.ensures
