use Rattle.std.proofs.Common.{◌≡◌, ◌++◌, ◌-◌}
use Rattle.std.specs.Prelude.{string_bytes}
use Rattle.std.specs.List.{flat_map, range_with_len}
use Rattle.mud_compact.specs.Rows.{row}
use Rattle.mud_compact.proofs.Rows.{text_at}
use Rattle.mud_compact.proofs.showing.show.Given as goal

-- the rows so far and the remaining ones are all
abbrev pub invariant-loop-number : goal.invariant-loop-number
invariant-loop-number l =
    string_bytes l.out ++ flat_map (text_at row l.world.objects) (range_with_len l.number (l.world.next - l.number))
    ≡ flat_map (λ e. row e.0 e.1) l.world.objects
