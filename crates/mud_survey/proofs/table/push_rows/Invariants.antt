use Rattle.std.proofs.Common.{◌≡◌, ◌++◌, take}
use Rattle.std.specs.Prelude.{string_bytes}
use Rattle.std.specs.List.{flat_map}
use Rattle.mud_survey.specs.Table.{row_text}
use Rattle.mud_survey.proofs.table.push_rows.Given as goal

-- those so far are written
abbrev pub invariant-loop-number : goal.invariant-loop-number
invariant-loop-number l =
    string_bytes l.out ≡ string_bytes l.fn.out ++ flat_map (row_text l.row l.world) (take l.number-index l.numbers)
