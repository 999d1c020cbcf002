use Rattle.websocket.proofs.HandshakeLemmas.{append_after}
use Rattle.mud_web.proofs.refusal.Refusal.write_head.Goals as goal

pub returns : goal.returns
returns c = append_after _ _ _ c.in_ok-write_status_line.ensures c.in_ok-write_fields.ensures
