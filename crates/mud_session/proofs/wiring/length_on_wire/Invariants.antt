use Rattle.std.proofs.Common.{◌≡◌, ◌≤◌, ◌*◌, length, take}
use Rattle.std.specs.List.{flat_map}
use Rattle.mud_session.specs.inner.Wire.{on_wire}
use Rattle.mud_session.proofs.wiring.length_on_wire.Given as goal

abbrev pub invariant-loop-byte : goal.invariant-loop-byte
invariant-loop-byte l = record {
  is : l.len ≡ length (flat_map on_wire (take l.byte-index l.text));
  fits : l.len ≤ 2 * l.byte-index;
}
