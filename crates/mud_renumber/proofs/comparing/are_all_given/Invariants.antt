use Rattle.std.proofs.Common.{ℕ, ◌<◌}
use Rattle.std.specs.Prelude.{IfSome}
use Rattle.mud_key.specs.Tree.{AllObjects}
use Rattle.mud_world.specs.State.{key_of}
use Rattle.mud_renumber.specs.Numbers.{number_at}
use Rattle.mud_renumber.proofs.comparing.are_all_given.Given as goal

-- the key of each number so far names numbers that are given
abbrev pub invariant-loop-number : goal.invariant-loop-number
invariant-loop-number l =
    (n : ℕ) → n < l.number → IfSome (key_of l.world n) (AllObjects (λ o. number_at l.numbers o < l.next))
