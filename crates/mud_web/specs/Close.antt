-- The closing of a channel: the codes of RFC 6455, section 7.4.1, with their reasons and frames.
use Rattle.std.specs.Prelude.{ℕ, List, [], Option, None, Some, is_some, if◌then◌else◌, codes}
use Rattle.websocket.specs.declared.error.Error.{Error}
use Rattle.websocket.specs.declared.error.Error.TheVariants as Cause
use Rattle.websocket.specs.declared.protocol.state.WebSocketState.{WebSocketState}
use Rattle.websocket.specs.declared.protocol.frame.coding.CloseCode.{CloseCode}
use Rattle.websocket.specs.declared.protocol.frame.coding.CloseCode.TheVariants as Code
use Rattle.websocket.specs.declared.protocol.frame.coding.OpCode.TheVariants as Op
use Rattle.websocket.specs.declared.protocol.frame.coding.Control.TheVariants.{Close}
use Rattle.websocket.specs.Content.{close_payload}
use Rattle.websocket.specs.Frame.{encode_frame}
use Rattle.websocket.specs.Connection.{whole_header, closing_state}
use Rattle.mud_web.specs.declared.closing.Ending.{Ending}
use Rattle.mud_web.specs.declared.closing.Ending.TheVariants.{Normal, GoingAway, ProtocolError, InvalidData, TooBig}
use Rattle.mud_web.specs.declared.closing.Ending.TheVariants.{InternalError, ServerFull, TooManySessions}

-- the code of an ending: 1000, 1001, 1002, 1007, 1009, 1011, 1013
abbrev pub code_of : Ending → CloseCode
code_of Normal = Code.Normal
code_of GoingAway = Code.Away
code_of ProtocolError = Code.Protocol
code_of InvalidData = Code.Invalid
code_of TooBig = Code.Size
code_of InternalError = Code.Error
code_of ServerFull = Code.Again
code_of TooManySessions = Code.Again

-- the reason that is sent with the code
abbrev pub reason_of : Ending → List ℕ
reason_of ServerFull = codes "server full"
reason_of TooManySessions = codes "too many sessions"
reason_of other = []

-- the close frame of an ending: its code and its reason, without a mask
abbrev pub close_frame : Ending → List ℕ
close_frame ending =
    encode_frame (whole_header (Op.Control Close) None) (close_payload (Some (code_of ending, reason_of ending)))

-- the ending that a protocol error calls for: 1002 for a broken rule, 1007 for text that is not UTF-8, and 1009 for a
-- message or a frame over the limit. After the other side's close there is none
abbrev pub ending_of : Error → Option Ending
ending_of (Cause.Protocol e) = Some ProtocolError
ending_of Cause.Utf8 = Some InvalidData
ending_of (Cause.Capacity e) = Some TooBig
ending_of Cause.OutOfMemory = Some InternalError
ending_of Cause.ConnectionClosed = None
ending_of Cause.AlreadyClosed = None

-- the close frame of an ending, if there is one
abbrev pub closes : Option Ending → List ℕ
closes None = []
closes (Some ending) = close_frame ending

-- the bytes sent when reading ends with this error
abbrev pub closes_for : Error → List ℕ
closes_for e = closes (ending_of e)

-- a close is sent once: nothing is sent if a close was already sent, or if the connection has failed after one
abbrev pub closes_once : WebSocketState → Ending → List ℕ
closes_once state ending = if is_some (closing_state state) then close_frame ending else []
