use Rattle.std.proofs.Common.{◌≡◌, ◌<◌, drop}
use Rattle.mud_cert.specs.inner.Reader.{digits_on}
use Rattle.mud_cert.proofs.numbers.digits_on.Given as goal

abbrev pub invariant-loop-i : goal.invariant-loop-i
invariant-loop-i l = record {
  same : digits_on l.number (drop l.i l.bytes) ≡ digits_on l.start l.bytes;
  few : l.number < 10000000000;
}
