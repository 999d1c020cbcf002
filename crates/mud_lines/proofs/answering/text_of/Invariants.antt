use Rattle.std.proofs.Common.{◌≡◌, ◌++◌, take}
use Rattle.std.specs.Prelude.{string_bytes}
use Rattle.std.specs.List.{flat_map}
use Rattle.mud_chron.specs.Text.{line_feed}
use Rattle.mud_lines.proofs.answering.text_of.Given as goal

-- the lines so far are written
abbrev pub invariant-loop-line : goal.invariant-loop-line
invariant-loop-line l =
    string_bytes l.out ≡ flat_map (λ line. string_bytes line ++ line_feed) (take l.line-index l.lines)
