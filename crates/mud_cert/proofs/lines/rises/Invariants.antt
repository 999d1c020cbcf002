use Rattle.std.proofs.Common.{◌≡◌, drop, None}
use Rattle.mud_cert.specs.inner.Reader.{rises}
use Rattle.mud_cert.proofs.lines.rises.Given as goal

abbrev pub invariant-loop-entry : goal.invariant-loop-entry
invariant-loop-entry l = rises l.last (drop l.entry-index l.entries) ≡ rises None l.entries
