use Rattle.std.proofs.Common.{◌≡◌, ◌++◌, codes}
use Rattle.std.specs.Prelude.{string_bytes}
use mathlib.Core.List.{IsPrefix}
use Rattle.mud_row.specs.Known.{lines_after}
use Rattle.mud_row.proofs.writing.push_text.Given as goal

-- the text so far and the remaining lines are the first line and all lines
abbrev pub invariant-loop-n : goal.invariant-loop-n
invariant-loop-n l = record {
  pass : l.pass ≡ l.fn.pass;
  text : string_bytes l.out ++ lines_after l.n l.fn.pass.list
      ≡ (string_bytes l.fn.out ++ codes "mud history 2\n") ++ lines_after 0 l.fn.pass.list;
  longer : IsPrefix (string_bytes l.fn.out) (string_bytes l.out);
}
