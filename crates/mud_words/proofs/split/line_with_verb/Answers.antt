use Rattle.std.proofs.Common.{◌≡◌, List, ℕ, [], None, length, ap, ◌∙◌, arith}
use Rattle.std.specs.Cow.{cow_str_bytes}
use Rattle.std.proofs.lemmas.List.{nil_from_length}
use Rattle.std.proofs.lemmas.Bool.Decides.{nat_tests}
use Rattle.std.proofs.lemmas.Result.{IfOk-weaker}
use Rattle.mud_words.specs.Parse.{round}
use Rattle.mud_words.proofs.JoinLemmas.{nothing_after, split_after}
use Rattle.mud_words.proofs.split.line_with_verb.Goals as goal

pub returns-then-is_empty : goal.returns-then-is_empty
returns-then-is_empty c =
    let none : length c.without_front-text.result.now ≡ 0 =
    grind (arith, nat_tests, c.is_empty.ensures, c.if-is_empty.true) in
    c.bare.ensures
    ∙ ap (λ (v : List ℕ). round v [] [] None) c.in_ok-verb.ensures
    ∙ nothing_after _ c.args.text.now _ c.without_front-text.ensures (nil_from_length _ none)

pub returns : goal.returns
returns c =
    IfOk-weaker c.split.result _ _
    (λ p h.
    h
    ∙ split_after cow_str_bytes _ _ c.new-args.result.items c.push_words.new.words.items c.args.text.now _ _
    c.in_ok-verb.ensures c.new-args.ensures.items c.in_ok-joined.ensures.words c.without_front-text.ensures
    c.without_back-rest.ensures)
    c.split.ensures
