use Rattle.std.proofs.Common.{◌≡◌, ◌<◌, drop}
use Rattle.mud_key.specs.declared.limits.TheConstants.{AMOUNTS}
use Rattle.mud_chron.specs.inner.Fields.{digits_on}
use Rattle.mud_chron.proofs.fields.digits.Given as goal

abbrev pub invariant-loop-byte : goal.invariant-loop-byte
invariant-loop-byte l = record {
  same : digits_on l.number (drop l.byte-index l.text) ≡ digits_on 0 l.text;
  few : l.number < AMOUNTS;
}
