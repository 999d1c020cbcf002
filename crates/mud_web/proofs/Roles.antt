-- A server's connection keeps its role, and stays open until a close comes. Its replies have no mask.
use Rattle.std.proofs.Common.{◌≡◌, ℕ, Bool, true, false, zero, suc, List, ◌++◌, length, drop, Option, None, Some}
use Rattle.std.proofs.Common.{Result, Ok, Err, refl, sym, ◌∙◌, ap, append-nil}
use Rattle.std.specs.Prelude.{cond, IfOk}
use Rattle.websocket.specs.declared.error.Error.TheVariants.{Protocol, ConnectionClosed}
use Rattle.websocket.specs.declared.error.ProtocolError.TheVariants.{ControlFrameTooBig}
use Rattle.websocket.specs.declared.error.Error.{Error}
use Rattle.websocket.specs.declared.protocol.config.Role.TheVariants.{Server}
use Rattle.websocket.specs.declared.protocol.state.WebSocketState.{WebSocketState}
use Rattle.websocket.specs.declared.protocol.state.WebSocketState.TheVariants.{Active, ClosedByUs, ClosedByPeer}
use Rattle.websocket.specs.declared.protocol.state.WebSocketState.TheVariants.{CloseAcknowledged, Failed, Terminated}
use Rattle.websocket.specs.declared.protocol.incomplete.MessageType.{MessageType}
use Rattle.websocket.specs.declared.protocol.incomplete.MessageType.TheVariants as Kind
use Rattle.websocket.specs.declared.protocol.frame.coding.CloseCode.{CloseCode}
use Rattle.websocket.specs.declared.protocol.frame.coding.OpCode.{OpCode}
use Rattle.websocket.specs.declared.protocol.frame.coding.OpCode.TheVariants as Op
use Rattle.websocket.specs.declared.protocol.frame.coding.Data.{Data}
use Rattle.websocket.specs.declared.protocol.frame.coding.Data.TheVariants.{Continue, Text, Binary}
use Rattle.websocket.specs.declared.protocol.frame.coding.Control.{Control}
use Rattle.websocket.specs.declared.protocol.frame.coding.Control.TheVariants.{Close, Ping, Pong}
use Rattle.websocket.specs.declared.protocol.frame.codec.FrameStatus.{FrameStatus}
use Rattle.websocket.specs.declared.protocol.frame.codec.FrameStatus.TheVariants.{Partial, Complete}
use Rattle.websocket.specs.Frame.{check_size}
use Rattle.websocket.specs.Content.{Content}
use Rattle.websocket.specs.Connection.{Connection, Effect, Outgoing, Sends, can_write, has_allowed_code, on_close}
use Rattle.websocket.specs.Connection.{on_short_control, on_control, check_so_far, deliver, on_message_bytes}
use Rattle.websocket.specs.Connection.{on_data_after, on_data, check_header, on_opcode, on_frame, read_step}
use Rattle.websocket.specs.Connection.{failed_state, failed_connection}
use Rattle.websocket.specs.Stream.{after_read, read_times}
use Rattle.websocket.proofs.StreamLemmas.{after_check_passed, TookFrame_from_read}
use Rattle.websocket.proofs.EffectLemmas.{read_step_after_close}
use Rattle.mud_web.specs.declared.closing.Ending.{Ending}
use Rattle.mud_web.specs.Channel.{Standing, StandsAfter, new_connection, reply_by}
use Rattle.mud_web.specs.Close.{closes, closes_for, ending_of}
use Rattle.mud_web.specs.inner.Steps.{IsOpen, closes_in}

abbrev Keeps : Connection → Effect → Type 0
Keeps conn effect = (effect.next.role ≡ conn.role) × (conn.state ≡ Active → IsOpen effect.next.state)

ok_is : {A : Type 0} {a b : A} → ◌≡◌ {A = Result A Error} (Ok a) (Ok b) → b ≡ a
ok_is e = cc e

close_cases : (conn : Connection) (payload : List ℕ) (frame : Option (CloseCode × List ℕ)) (active allowed : Bool)
    (effect : Effect)
    → can_write conn.state ≡ active → has_allowed_code frame ≡ allowed → on_close conn payload (Ok frame) ≡ Ok effect
    → Keeps conn effect
close_cases conn payload frame false allowed effect state code is =
    (rw (ok_is is, state) refl, λ active. absurd (cc (sym state ∙ ap can_write active)))
close_cases conn payload frame true true effect state code is =
    (rw (ok_is is, state, code) refl, λ active. rw (ok_is is, state, code) tt)
close_cases conn payload frame true false effect state code is =
    (rw (ok_is is, state, code) refl, λ active. rw (ok_is is, state, code) tt)

on_close_keeps : (conn : Connection) (payload : List ℕ) (r : Result (Option (CloseCode × List ℕ)) Error)
    (effect : Effect) → on_close conn payload r ≡ Ok effect → Keeps conn effect
on_close_keeps conn payload (Err e) effect is = absurd (cc is)
on_close_keeps conn payload (Ok frame) effect is = close_cases conn payload frame _ _ effect refl refl is

short_keeps : (conn : Connection) (control : Control) (payload : List ℕ) (effect : Effect)
    → on_short_control conn control payload ≡ Ok effect → Keeps conn effect
short_keeps conn Close payload effect is = on_close_keeps conn payload _ effect is
short_keeps conn Pong payload effect is = (rw (ok_is is) refl, λ active. rw (ok_is is, active) tt)
short_keeps conn Ping payload effect is = (rw (ok_is is) refl, λ active. rw (ok_is is, active) tt)

too_long : (conn : Connection) (control : Control) (payload : List ℕ) (long : Bool) (effect : Effect)
    → cond long (Err (Protocol ControlFrameTooBig)) (on_short_control conn control payload) ≡ Ok effect
    → Keeps conn effect
too_long conn control payload true effect is = absurd (cc is)
too_long conn control payload false effect is = short_keeps conn control payload effect is

on_control_keeps : (conn : Connection) (control : Control) (is_final : Bool) (payload : List ℕ) (effect : Effect)
    → on_control conn control is_final payload ≡ Ok effect → Keeps conn effect
unfolding on_control
on_control_keeps conn control false payload effect is = absurd (cc is)
on_control_keeps conn control true payload effect is = too_long conn control payload _ effect is

deliver_keeps : (conn : Connection) (r : Result Content Error) (effect : Effect) → deliver conn r ≡ Ok effect
    → Keeps conn effect
deliver_keeps conn (Err e) effect is = absurd (cc is)
deliver_keeps conn (Ok content) effect is = (rw (ok_is is) refl, λ active. rw (ok_is is, active) tt)

bytes_keep : (conn : Connection) (kind : MessageType) (is_final : Bool) (bs : List ℕ) (effect : Effect)
    → on_message_bytes conn kind is_final bs ≡ Ok effect → Keeps conn effect
unfolding on_message_bytes
bytes_keep conn kind true bs effect is =
    deliver_keeps conn _ effect (after_check_passed (check_size (length bs) conn.config.max_message_size) _ effect is)
bytes_keep conn kind false bs effect is =
    let kept =
    after_check_passed (check_so_far kind bs) _ effect
    (after_check_passed (check_size (length bs) conn.config.max_message_size) _ effect is) in
    (rw (ok_is kept) refl, λ active. rw (ok_is kept, active) tt)

data_keeps : (conn : Connection) (fragments : Option (MessageType × List ℕ)) (kind : Data) (is_final : Bool)
    (payload : List ℕ) (effect : Effect) → on_data_after conn fragments kind is_final payload ≡ Ok effect
    → Keeps conn effect
data_keeps conn None Continue is_final payload effect is = absurd (cc is)
data_keeps conn None Text is_final payload effect is = bytes_keep conn Kind.Text is_final payload effect is
data_keeps conn None Binary is_final payload effect is = bytes_keep conn Kind.Binary is_final payload effect is
data_keeps conn (Some p) Continue is_final payload effect is = bytes_keep conn p.0 is_final (p.1 ++ payload) effect is
data_keeps conn (Some p) Text is_final payload effect is = absurd (cc is)
data_keeps conn (Some p) Binary is_final payload effect is = absurd (cc is)

opcode_keeps : (conn : Connection) (op : OpCode) (is_final : Bool) (payload : List ℕ) (effect : Effect)
    → on_opcode conn op is_final payload ≡ Ok effect → Keeps conn effect
unfolding on_data
opcode_keeps conn (Op.Control control) is_final payload effect is =
    on_control_keeps conn control is_final payload effect is
opcode_keeps conn (Op.Data kind) is_final payload effect is =
    data_keeps conn conn.fragments kind is_final payload effect is

kept : (conn : Connection) (bs : List ℕ) (p : ℕ × Effect) → read_step conn bs ≡ Ok (Complete p) → Keeps conn p.1
unfolding on_frame
kept conn bs p read =
    let took = TookFrame_from_read conn bs p read in
    opcode_keeps conn took.header.opcode took.header.is_final took.payload p.1
    (after_check_passed (check_header conn took.header) _ p.1 took.does)

pub role_kept : (conn : Connection) (bs : List ℕ) (p : ℕ × Effect) → read_step conn bs ≡ Ok (Complete p)
    → p.1.next.role ≡ conn.role
role_kept conn bs p read = (kept conn bs p read).0

-- ---- open still

-- a server that does not close by itself
pub record IsLive (conn : Connection) : Type 0 where
  pub role : conn.role ≡ Server
  pub open_still : IsOpen conn.state

active_by : (conn : Connection) (bs : List ℕ) (p : ℕ × Effect) (state : WebSocketState) → conn.state ≡ state
    → IsOpen state
    → read_step conn bs ≡ Ok (Complete p) → conn.state ≡ Active
active_by conn bs p Active is open_still read = is
active_by conn bs p ClosedByPeer is open_still read = absurd (read_step_after_close conn bs p (rw is refl) read)
active_by conn bs p ClosedByUs is open_still read = absurd open_still
active_by conn bs p CloseAcknowledged is open_still read = absurd open_still
active_by conn bs p Failed is open_still read = absurd open_still
active_by conn bs p Terminated is open_still read = absurd open_still

pub live_kept : (conn : Connection) (bs : List ℕ) (p : ℕ × Effect) → read_step conn bs ≡ Ok (Complete p)
    → IsLive conn → IsLive p.1.next
live_kept conn bs p read live = record {
  role = role_kept conn bs p read ∙ live.role;
  open_still = (kept conn bs p read).1 (active_by conn bs p conn.state refl live.open_still read);
}

ends_live_by : (n : ℕ) (conn : Connection) (bs : List ℕ) (r : Result (FrameStatus (ℕ × Effect)) Error)
    → read_step conn bs ≡ r
    → ((next : Connection) (rest : List ℕ) → IsLive next → IfOk (read_times n next rest).end (λ p. IsLive p.0))
    → IsLive conn → IfOk (after_read (read_times n) conn bs r).end (λ p. IsLive p.0)
ends_live_by n conn bs (Err e) read later live = tt
ends_live_by n conn bs (Ok (Partial needed)) read later live = live
ends_live_by n conn bs (Ok (Complete p)) read later live = later p.1.next (drop p.0 bs) (live_kept conn bs p read live)

ends_live : (n : ℕ) (conn : Connection) (bs : List ℕ) → IsLive conn → IfOk (read_times n conn bs).end (λ p. IsLive p.0)
unfolding read_times
ends_live zero conn bs live = live
ends_live (suc n) conn bs live = ends_live_by n conn bs _ refl (ends_live n) live

pub stands_live : (channel : Standing) (bytes : List ℕ) → StandsAfter channel bytes → IsLive channel.conn
stands_live channel bytes stands =
    rw stands.is at (ends_live (suc (length bytes)) new_connection bytes (record { role = refl; open_still = tt }))

-- ---- failed reads

closed_fails : (conn : Connection) (bs : List ℕ) (e : Error) → conn.role ≡ Server → conn.state ≡ ClosedByPeer
    → read_step conn bs ≡ Err e → ConnectionClosed ≡ e
unfolding read_step
closed_fails conn bs e role state read = cc (rw (role, state) at read)

closes_active : (ending : Option Ending) → closes_in Failed ending ≡ closes ending
closes_active None = refl
closes_active (Some ending) = refl

closes_by : (conn : Connection) (bs : List ℕ) (e : Error) (state : WebSocketState) → conn.role ≡ Server
    → conn.state ≡ state
    → IsOpen state → read_step conn bs ≡ Err e → closes_in (failed_state state) (ending_of e) ≡ closes_for e
closes_by conn bs e Active role is open_still read = closes_active (ending_of e)
closes_by conn bs e ClosedByPeer role is open_still read = rw (sym (closed_fails conn bs e role is read)) refl
closes_by conn bs e ClosedByUs role is open_still read = absurd open_still
closes_by conn bs e CloseAcknowledged role is open_still read = absurd open_still
closes_by conn bs e Failed role is open_still read = absurd open_still
closes_by conn bs e Terminated role is open_still read = absurd open_still

pub closes_is : (conn : Connection) (bs : List ℕ) (e : Error) → IsLive conn
    → read_step conn bs ≡ Err e → closes_in (failed_connection conn).state (ending_of e) ≡ closes_for e
closes_is conn bs e live read = closes_by conn bs e conn.state live.role refl live.open_still read

-- ---- sent frames

pub sends_server : (reply : Option Outgoing) (old new : List ℕ) → Sends Server reply old new
    → new ≡ old ++ reply_by reply
sends_server None old new sends = rw append-nil sends
sends_server (Some frame) old new (None, masked, sends) = sends
sends_server (Some frame) old new (Some key, masked, sends) = absurd (cc masked.0)
