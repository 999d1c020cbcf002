use Rattle.std.proofs.Common.{◌≡◌, ◌++◌, take, map, flat_map, string_bytes}
use Rattle.mud_status.specs.Status.{row_text}
use Rattle.mud_status.specs.inner.Rows.{line_of}
use Rattle.mud_status.proofs.rows.write_rows.Given as goal

-- the rows so far follow the old text
abbrev pub invariant-loop-row : goal.invariant-loop-row
invariant-loop-row l =
    string_bytes l.text ≡ string_bytes l.fn.text ++ flat_map row_text (map line_of (take l.row-index l.rows))
