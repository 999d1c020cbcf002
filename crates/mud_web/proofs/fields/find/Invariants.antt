use Rattle.std.proofs.Common.{take}
use Rattle.websocket.specs.Headers.{fields_of}
use Rattle.mud_web.specs.Fields.{values}
use Rattle.mud_web.specs.inner.Found.{IsFound}
use Rattle.mud_web.proofs.fields.find.Given as goal

abbrev pub invariant-loop-header : goal.invariant-loop-header
invariant-loop-header l = IsFound l.found (values (fields_of l.head (take l.header-index l.spans)) l.name)
