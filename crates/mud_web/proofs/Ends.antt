-- The frame that the server's own close appends.
use Rattle.std.proofs.Common.{◌≡◌, ℕ, List, [], ◌++◌, if◌then◌else◌, Option, None, Some, Ok, refl, append-nil}
use Rattle.std.specs.Prelude.{is_some}
use Rattle.websocket.specs.declared.protocol.config.Role.TheVariants.{Server}
use Rattle.websocket.specs.declared.protocol.state.WebSocketState.{WebSocketState}
use Rattle.websocket.specs.Connection.{Connection, Outgoing, check_close, close_to}
use Rattle.websocket.specs.declared.protocol.frame.coding.OpCode.TheVariants as Op
use Rattle.websocket.specs.declared.protocol.frame.coding.Control.TheVariants.{Close}
use Rattle.websocket.specs.Content.{close_payload}
use Rattle.websocket.specs.View.{Leaves}
use Rattle.mud_web.specs.declared.closing.Ending.{Ending}
use Rattle.mud_web.specs.declared.closing.Ending.TheVariants.{Normal, GoingAway, ProtocolError, InvalidData, TooBig}
use Rattle.mud_web.specs.declared.closing.Ending.TheVariants.{InternalError, ServerFull, TooManySessions}
use Rattle.mud_web.specs.Close.{code_of, reason_of, close_frame}
use Rattle.mud_web.proofs.Roles.{sends_server}

may_close : (ending : Ending) → check_close (Some (code_of ending, reason_of ending)) ≡ Ok tt
may_close Normal = refl
may_close GoingAway = refl
may_close ProtocolError = refl
may_close InvalidData = refl
may_close TooBig = refl
may_close InternalError = refl
may_close ServerFull = refl
may_close TooManySessions = refl

pub sends_close : (conn next : Connection) (ending : Ending) (state : Option WebSocketState) (old new : List ℕ)
    → conn.role ≡ Server → Leaves (close_to conn (Some (code_of ending, reason_of ending)) state) next old new
    → new ≡ old ++ (if is_some state then close_frame ending else [])
sends_close conn next ending None old new role leaves = rw append-nil leaves.1
sends_close conn next ending (Some state) old new role leaves =
    let sent = rw (may_close ending) at leaves in
    let here : next.role ≡ Server = rw sent.0 role in
    let frame : Outgoing =
    record { opcode = Op.Control Close; payload = close_payload (Some (code_of ending, reason_of ending)) } in
    sends_server (Some frame) old new (rw here at sent.1)
