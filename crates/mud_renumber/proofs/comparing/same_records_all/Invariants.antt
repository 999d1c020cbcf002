use Rattle.std.proofs.Common.{◌≡◌, ℕ, ◌<◌}
use Rattle.std.specs.Option.{option_map}
use Rattle.mud_world.specs.State.{record_at}
use Rattle.mud_renumber.specs.Numbers.{number_at}
use Rattle.mud_renumber.specs.Renumbered.{record_under}
use Rattle.mud_renumber.proofs.comparing.same_records_all.Given as goal

-- each number so far has its record under its new number
abbrev pub invariant-loop-number : goal.invariant-loop-number
invariant-loop-number l =
    (n : ℕ) → n < l.number
    → record_at l.other (number_at l.numbers n) ≡ option_map (record_under (number_at l.numbers)) (record_at l.world n)
