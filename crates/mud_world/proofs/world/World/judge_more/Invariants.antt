use Rattle.std.proofs.Common.{◌≡◌, ℕ, true, false, drop, get_or}
use Rattle.std.specs.Prelude.{nat_eq}
use Rattle.std.specs.Option.{option_map_or}
use Rattle.std.specs.List.{list_any}
use Rattle.mud_world.specs.State.{has}
use Rattle.mud_world.specs.Truth.{key_true}
use Rattle.mud_world.specs.inner.Answers.{answers_with}
use Rattle.mud_world.proofs.world.World.judge_more.Given as goal

-- the remaining results are rewritten over the present ones
abbrev pub invariant-loop-object : goal.invariant-loop-object
invariant-loop-object l =
    let new =
    λ (k : ℕ). has l.self k
    (λ r. option_map_or (key_true (λ a. list_any (nat_eq a) l.holding) (λ o. get_or l.before o false)) r.key true)
    in
    answers_with new (drop l.object-index l.object-items) l.answers.items
    ≡ answers_with new l.index.1 l.index.0
