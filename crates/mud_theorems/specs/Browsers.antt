-- The messages that a browser sends, and how it reads a client's output (RFC 6455, sections 5 and 6).
use Rattle.std.specs.Prelude.{◌≡◌, ◌≤◌, ℕ, List, [], ◌∷◌, ◌++◌, length, map, IsUtf8, Some, Ok}
use Rattle.std.specs.List.{flat_map}
use Rattle.websocket.specs.declared.protocol.frame.coding.OpCode.TheVariants as Op
use Rattle.websocket.specs.declared.protocol.frame.coding.Data.TheVariants.{Text}
use Rattle.websocket.specs.FrameHeader.{IsMask}
use Rattle.websocket.specs.Frame.{encode_frame}
use Rattle.websocket.specs.Content.{text}
use Rattle.websocket.specs.Connection.{Effect, whole_header}
use Rattle.websocket.specs.Stream.{read_all}
use Rattle.mud_nvt.specs.declared.codes.TheConstants.{LF}
use Rattle.mud_web.specs.declared.channel.TheConstants.{MOST_MESSAGE}
use Rattle.mud_web.specs.Laws.{client}

-- a text message of a browser, and the mask of its frame
pub record Message : Type 0 where
  pub line : List ℕ
  pub mask : List ℕ

-- the message is within a server's limits, and has a mask of four bytes
abbrev pub IsMessage : Message → Type 0
IsMessage m = IsUtf8 m.line × (length m.line ≤ MOST_MESSAGE) × IsMask (Some m.mask)

-- the bytes of messages, one frame each
abbrev pub frames_by : List Message → List ℕ
frames_by messages = flat_map (λ m. encode_frame (whole_header (Op.Data Text) (Some m.mask)) m.line) messages

-- the lines of messages, one each
abbrev pub lines_by : List Message → List ℕ
lines_by messages = flat_map (λ m. m.line ++ LF ∷ []) messages

-- a browser reads these bytes as text messages, with no byte left over, and their texts concatenate to this one
pub record ReadsText (sent said : List ℕ) : Type 0 where
  pub texts : List (List ℕ)
  pub is : flat_map (λ t. t) texts ≡ said
  pub effects : List Effect
  pub messages : map (λ e. e.message) effects ≡ map (λ t. Some (text t)) texts
  pub reads : read_all client sent ≡ record { effects = effects; end = Ok (client, []) }
