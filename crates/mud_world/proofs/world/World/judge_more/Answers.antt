use Rattle.std.proofs.Common.{◌≡◌, ◌∙◌, ℕ, true, false, List, get_or, ap, sym, arith}
use Rattle.std.proofs.lemmas.List.{drop_all}
use Rattle.std.specs.Prelude.{nat_eq}
use Rattle.std.specs.Option.{option_map_or}
use Rattle.std.specs.List.{list_any}
use Rattle.mud_world.specs.State.{has}
use Rattle.mud_world.specs.Truth.{key_true}
use Rattle.mud_world.specs.inner.Answers.{answers_with}
use Rattle.mud_world.proofs.Written.{written-anew}
use Rattle.mud_world.proofs.world.World.judge_more.Goals as goal

pub returns-clause-answers : goal.returns-clause-answers
returns-clause-answers c = λ o.
    let index = c.args.index.now in
    let test = key_true (λ a. list_any (nat_eq a) c.args.holding.now) (λ o. get_or c.args.before.now o false) in
    let new = λ (k : ℕ). has c.args.self.now k (λ r. option_map_or test r.key true) in
    let answers = c.loop-object.answers.items in
    let done : answers_with new index.1 index.0 ≡ answers =
    sym c.loop-object.invariant
    ∙ ap (λ (left : List ℕ). answers_with new left answers)
    (drop_all c.loop-object.object-index c.keyed-object-items.result.now (omega (arith, c.loop-object-test.false))) in
    sym (ap (λ l. get_or l o false) done)
    ∙ written-anew c.args.self.now c.know_sound.ensures index.0 index.1 c.requires test o
