use Rattle.std.proofs.Common.{◌≡◌, take}
use Rattle.websocket.specs.Headers.{fields_of}
use Rattle.mud_web.specs.Fields.{has_member}
use Rattle.mud_web.proofs.fields.has_member.Given as goal

abbrev pub invariant-loop-header : goal.invariant-loop-header
invariant-loop-header l = l.has ≡ has_member (fields_of l.head (take l.header-index l.spans)) l.name l.wanted
