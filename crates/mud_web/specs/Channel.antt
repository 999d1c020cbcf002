-- The server's side of a web socket after the handshake (RFC 6455, sections 5 and 7): the text that the client's
-- messages type, and the automatic replies.
use Rattle.std.specs.Prelude.{◌≡◌, ℕ, Bool, false, List, [], ◌∷◌, ◌++◌, Option, None, Some, Ok, Err}
use Rattle.std.specs.List.{flat_map}
use Rattle.websocket.specs.declared.error.Error.{Error}
use Rattle.websocket.specs.declared.protocol.config.Role.TheVariants.{Server}
use Rattle.websocket.specs.declared.protocol.state.WebSocketState.TheVariants.{Active}
use Rattle.websocket.specs.Content.{Content, text}
use Rattle.websocket.specs.Frame.{encode_frame}
use Rattle.websocket.specs.Connection.{Connection, Effect, Outgoing, whole_header}
use Rattle.websocket.specs.Stream.{read_all}
use Rattle.mud_nvt.specs.declared.codes.TheConstants.{LF}
use Rattle.mud_web.specs.declared.channel.TheConstants.{MOST_MESSAGE}
use Rattle.mud_web.specs.Close.{closes_for}
use Rattle.mud_web.specs.declared.fault.Fault.{Fault}
use Rattle.mud_web.specs.declared.fault.Fault.TheVariants.{Over}

-- a server's connection before the first frame: messages and frames have at most 4,096 bytes, and a frame without a
-- mask is refused
abbrev pub new_connection : Connection
new_connection = record {
  role = Server;
  state = Active;
  fragments = None;
  config = record {
    max_message_size = Some MOST_MESSAGE;
    max_frame_size = Some MOST_MESSAGE;
    accept_unmasked_frames = false;
  };
}

-- the state of a channel: the state of the protocol, the bytes after the last whole frame, and whether it has ended
pub record Standing : Type 0 where
  pub conn : Connection
  pub unread : List ℕ
  pub has_ended : Bool

-- a text message types its bytes and LF, and no other message types anything
abbrev pub typed_by : Option Content → List ℕ
typed_by (Some (text bs)) = bs ++ LF ∷ []
typed_by other = []

-- the text that these frames type, in order
abbrev pub text_typed : List Effect → List ℕ
text_typed effects = flat_map (λ e. typed_by e.message) effects

-- the text that these bytes type
abbrev pub typed_of : List ℕ → List ℕ
typed_of bytes = text_typed (read_all new_connection bytes).effects

-- a reply is one frame, without a mask (5.1)
abbrev pub reply_by : Option Outgoing → List ℕ
reply_by None = []
reply_by (Some frame) = encode_frame (whole_header frame.opcode None) frame.payload

-- the replies to these frames, in order: a pong to a ping, and a close to a close
abbrev pub replies : List Effect → List ℕ
replies effects = flat_map (λ e. reply_by e.reply) effects

-- the state of a channel that received exactly these bytes: all their frames were read, however the stream was cut, and
-- neither side closed
pub record StandsAfter (channel : Standing) (bytes : List ℕ) : Type 0 where
  pub is : (read_all new_connection bytes).end ≡ Ok (channel.conn, channel.unread)
  pub goes_on : channel.has_ended ≡ false

-- these frames are complete after the bytes and were not before
abbrev pub Finishes : (earlier bytes : List ℕ) → List Effect → Type 0
Finishes earlier bytes fresh =
    (read_all new_connection (earlier ++ bytes)).effects ≡ (read_all new_connection earlier).effects ++ fresh

-- the typed text gains the text of the frames that the bytes complete, and the replies gain the replies to those
-- frames, followed by this end
pub record Grows (earlier bytes typed_old typed_new replies_old replies_new end : List ℕ) : Type 0 where
  pub fresh : List Effect
  pub finishes : Finishes earlier bytes fresh
  pub types : typed_new ≡ typed_old ++ text_typed fresh
  pub answers : replies_new ≡ replies_old ++ replies fresh ++ end

-- the channel consumes these bytes, whatever bytes came earlier
pub record TakesIn (old new : Standing) (bytes typed_old typed_new replies_old replies_new : List ℕ) : Type 0 where
  pub stands : (earlier : List ℕ) → StandsAfter old earlier → StandsAfter new (earlier ++ bytes)
  pub grows : (earlier : List ℕ) → StandsAfter old earlier
      → Grows earlier bytes typed_old typed_new replies_old replies_new []

-- the channel consumes these bytes up to the frame that ends the connection with this error. That frame types nothing,
-- and the reply to it is the close that the error calls for
pub record EndsWith (old : Standing) (bytes typed_old typed_new replies_old replies_new : List ℕ)
    (e : Error) : Type 0 where
  pub ends : (earlier : List ℕ) → StandsAfter old earlier → (read_all new_connection (earlier ++ bytes)).end ≡ Err e
  pub grows : (earlier : List ℕ) → StandsAfter old earlier
      → Grows earlier bytes typed_old typed_new replies_old replies_new (closes_for e)

-- a fact about the protocol error, if the fault is one
abbrev pub IfOver : Fault → (Error → Type 0) → Type 0
IfOver (Over e) P = P e
IfOver other P = Unit {0}
