use Rattle.std.proofs.Common.{◌≡◌, ◌<◌, ◌^◌, drop}
use Rattle.mud_rules.specs.Matches.{digits_value}
use Rattle.mud_rules.proofs.matching.digits_value.Given as goal

-- the rest continues from the value so far, which has no more digits than were read
abbrev pub invariant-loop-digit : goal.invariant-loop-digit
invariant-loop-digit l = record {
  value : digits_value 0 l.digits ≡ digits_value l.value (drop l.digit-index l.digits);
  small : l.value < 10 ^ l.digit-index;
}
