use Rattle.std.proofs.Common.{◌≡◌, ◌++◌, take, string_bytes}
use Rattle.std.specs.List.{flat_map}
use Rattle.mud_cert.specs.inner.Lines.{exit_text}
use Rattle.mud_cert.proofs.writing.push_exits.Given as goal

abbrev pub invariant-loop-exit : goal.invariant-loop-exit
invariant-loop-exit l =
    string_bytes l.out ≡ string_bytes l.initial.out ++ flat_map exit_text (take l.exit-index l.exits)
