use Rattle.std.proofs.Common.{◌≡◌, ◌+◌, ◌++◌, drop}
use Rattle.std.specs.Prelude.{string_bytes}
use Rattle.mud_chron.specs.Text.{entries_text}
use Rattle.mud_chron.proofs.writing.push_entries.Given as goal

-- the text so far and the rest make up the whole
abbrev pub invariant-loop-entry : goal.invariant-loop-entry
invariant-loop-entry l = record {
  counted : l.version ≡ l.entry-index;
  text : string_bytes l.out ++ entries_text (l.version + 1) (drop l.entry-index l.entries) ≡ string_bytes l.fn.out
      ++ entries_text 1 l.entries;
}
