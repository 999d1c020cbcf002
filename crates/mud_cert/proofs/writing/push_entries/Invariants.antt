use Rattle.std.proofs.Common.{◌≡◌, ◌++◌, take, string_bytes}
use Rattle.std.specs.List.{flat_map}
use Rattle.mud_cert.specs.Text.{entry_text}
use Rattle.mud_cert.proofs.writing.push_entries.Given as goal

abbrev pub invariant-loop-entry : goal.invariant-loop-entry
invariant-loop-entry l =
    string_bytes l.out ≡ string_bytes l.initial.out ++ flat_map (entry_text l.form) (take l.entry-index l.labels)
