use Rattle.std.proofs.Common.{◌≡◌, take}
use Rattle.std.specs.Prelude.{string_bytes}
use Rattle.std.specs.List.{flat_map}
use Rattle.mud_diff.specs.Rows.{row}
use Rattle.mud_diff.proofs.rows.rows_of.Given as goal

-- the rows of the differences so far
abbrev pub invariant-loop-difference : goal.invariant-loop-difference
invariant-loop-difference l =
    string_bytes l.out ≡ flat_map (row l.old l.new) (take l.difference-index l.differences)
