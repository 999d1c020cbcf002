-- Laws of the definitions.
use Rattle.std.specs.Prelude.{◌≡◌, ◌≢◌, ◌⊎◌, ◌≤◌, ◌<◌, ◌+◌, ◌-◌, ℕ, false, List, [], ◌∷◌, ◌++◌, length, take, map, All}
use Rattle.std.specs.Prelude.{IsUtf8, None, Some, Ok, slice_index}
use Rattle.std.specs.List.{flat_map}
use Rattle.std.specs.Str.{IsAscii}
use Rattle.websocket.specs.declared.protocol.config.Role.TheVariants.{Client}
use Rattle.websocket.specs.declared.protocol.state.WebSocketState.TheVariants.{Active}
use Rattle.websocket.specs.declared.protocol.frame.codec.FrameStatus.TheVariants.{Complete}
use Rattle.websocket.specs.declared.protocol.frame.coding.OpCode.TheVariants as Op
use Rattle.websocket.specs.declared.protocol.frame.coding.Data.TheVariants.{Text}
use Rattle.websocket.specs.FrameHeader.{IsMask}
use Rattle.websocket.specs.Frame.{encode_frame}
use Rattle.websocket.specs.Content.{text}
use Rattle.websocket.specs.Connection.{Connection, Effect, whole_header, read_step}
use Rattle.mud_nvt.specs.declared.codes.TheConstants.{IAC, LF}
use Rattle.mud_nvt.specs.Units.{Given, units}
use Rattle.mud_nvt.specs.Units as Unit
use Rattle.websocket.specs.Stream.{prepend, read_all}
use Rattle.mud_web.specs.declared.channel.TheConstants.{MOST_MESSAGE}
use Rattle.mud_web.specs.declared.messages.TheConstants.{MOST_SENT}
use Rattle.httparse.specs.Grammar.{AllPass}
use Rattle.mud_web.specs.declared.first_line.Verdict.TheVariants.{Undecided}
use Rattle.mud_web.specs.FirstLine.{Decides, is_line_end}
use Rattle.mud_web.specs.Channel.{new_connection, typed_by, typed_of}
use Rattle.mud_web.specs.Sending.{messages_of, frames_of}

-- the other side of a web socket before the first frame, with no limits of its own
abbrev pub client : Connection
client = record {
  role = Client;
  state = Active;
  fragments = None;
  config = record { max_message_size = None; max_frame_size = None; accept_unmasked_frames = false };
}

-- a message of at most this length is the beginning of a text, and the rest of the text follows. It ends after the last
-- line end that fits, or at the limit if none fits
pub record IsCut (most : ℕ) (message rest : List ℕ) : Type 0 where
  pub over : most < length message + length rest
  pub at : (slice_index message (length message - 1) ≡ LF) ⊎ ((length message ≡ most) × All (λ b. b ≢ LF) message)
  pub last : All (λ b. b ≢ LF) (take (most - length message) rest)

-- each message but the last is cut like this
abbrev pub AreCut : List (List ℕ) → Type 0
AreCut [] = Unit {0}
AreCut (message ∷ more) =
    let rest = flat_map (λ m. m) more in (rest ≢ [] → IsCut MOST_SENT message rest) × AreCut more

-- the messages of a text concatenate to the text; none is empty or over the limit, and each is cut at line ends
abbrev pub Messages : Type 0
Messages =
    (text : List ℕ) → let messages = messages_of text in
    (flat_map (λ m. m) messages ≡ text) × All (λ m. (0 < length m) × (length m ≤ MOST_SENT)) messages
    × AreCut messages

-- the other side reads the sent text as its messages, and they concatenate to the text
abbrev pub TextsArrive : Type 0
TextsArrive =
    (bs rest : List ℕ) → IsAscii bs
    → (effects : List Effect) × (map (λ e. e.message) effects ≡ map (λ m. Some (text m)) (messages_of bs))
    × (read_all client (frames_of bs ++ rest) ≡ prepend effects (read_all client rest))

-- a text message that the other side sends as one frame, under any mask, types that text and LF
abbrev pub MessagesType : Type 0
MessagesType =
    (bs key rest : List ℕ) → IsUtf8 bs → length bs ≤ MOST_MESSAGE → IsMask (Some key)
    → let frame = encode_frame (whole_header (Op.Data Text) (Some key)) bs in
    (effect : Effect) × (read_step new_connection (frame ++ rest) ≡ Ok (Complete (length frame, effect)))
    × (typed_by effect.message ≡ bs ++ LF ∷ [])

-- no input of a web socket types the byte IAC, which begins every Telnet command
abbrev pub NothingCommands : Type 0
NothingCommands = (bytes : List ℕ) → All (λ b. b < IAC) (typed_of bytes)

-- a line, as opposed to a Telnet command or query
abbrev pub IsLine : Given → Type 0
IsLine (Unit.Text line) = Unit {0}
IsLine Unit.TooLong = Unit {0}
IsLine Unit.Ayt = ⊥
IsLine (Unit.Answer bytes) = ⊥

-- so a web socket gives its session only lines, and the session sends no Telnet answer
abbrev pub OnlyLinesAreTyped : Type 0
OnlyLinesAreTyped = (bytes : List ℕ) → All IsLine (units (typed_of bytes))

-- while it is undecided whether a connection begins with a request, only line ends came, and then bytes without one. So
-- no non-empty line is complete
abbrev pub UndecidedEndsNoLine : Type 0
UndecidedEndsNoLine =
    (bytes : List ℕ) → Decides Undecided bytes
    → (blank line : List ℕ) × AllPass is_line_end blank
    × All (λ b. is_line_end b ≡ false) line × (bytes ≡ blank ++ line)
