use Rattle.std.proofs.Common.{◌≡◌, ◌++◌, ◌-◌}
use Rattle.std.specs.Prelude.{string_bytes}
use Rattle.std.specs.List.{flat_map, range_with_len}
use Rattle.mud_compact.proofs.Rows.{text_at}
use Rattle.mud_renumber.specs.Numbers.{number_in, map_row}
use Rattle.mud_renumber.proofs.telling.tell.Given as goal

-- the lines so far and the remaining ones are all
abbrev pub invariant-loop-number : goal.invariant-loop-number
invariant-loop-number l =
    string_bytes l.out
    ++ flat_map (text_at (λ n _. map_row n (number_in l.numbers n)) l.world.objects)
    (range_with_len l.number (l.world.next - l.number))
    ≡ flat_map (λ e. map_row e.0 (number_in l.numbers e.0)) l.world.objects
