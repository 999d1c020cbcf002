-- The frames of a sent text (RFC 6455, sections 5.1 and 5.6).
use Rattle.std.specs.Prelude.{ℕ, List, length, None}
use Rattle.std.specs.List.{flat_map}
use Rattle.websocket.specs.declared.protocol.frame.coding.OpCode.TheVariants as Op
use Rattle.websocket.specs.declared.protocol.frame.coding.Data.TheVariants.{Text}
use Rattle.websocket.specs.Frame.{encode_frame}
use Rattle.websocket.specs.Connection.{whole_header}
use Rattle.mud_web.specs.inner.Cuts.{messages_within}

-- a message is one frame, without a mask
abbrev pub frame_of : List ℕ → List ℕ
frame_of text = encode_frame (whole_header (Op.Data Text) None) text

-- the messages of a sent text. A reader need not look into this: the law `messages` characterizes them
unfoldable pub messages_of : List ℕ → List (List ℕ)
messages_of text = messages_within (length text) text

-- a text is sent as its messages, one frame each; the empty text gives no frame
abbrev pub frames_of : List ℕ → List ℕ
frames_of text = flat_map frame_of (messages_of text)
