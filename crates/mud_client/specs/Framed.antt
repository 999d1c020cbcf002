-- The framing of a client's input and output: none for Telnet, and messages for a web socket.
use Rattle.std.specs.Prelude.{◌≡◌, ℕ, List, [], ◌++◌, Option, Some, if◌then◌else◌}
use Rattle.std.specs.List.{flat_map}
use Rattle.websocket.specs.declared.error.Error.{Error}
use Rattle.websocket.specs.Connection.{Effect, can_write}
use Rattle.websocket.specs.Stream.{read_all}
use Rattle.mud_web.specs.declared.closing.Ending.{Ending}
use Rattle.mud_web.specs.Channel.{Standing, StandsAfter, TakesIn, EndsWith, new_connection, typed_of, replies}
use Rattle.mud_web.specs.Sending.{frames_of}
use Rattle.mud_web.specs.Close.{closes_once}
use Rattle.mud_client.specs.declared.framing.Framing.{Framing}
use Rattle.mud_client.specs.declared.framing.Framing.TheVariants.{Telnet, Web}

-- there was no input yet
abbrev pub IsNew : Framing → Type 0
IsNew Telnet = Unit {0}
IsNew (Web channel) = StandsAfter channel []

-- a text as it is sent
abbrev pub framed : Framing → List ℕ → List ℕ
framed Telnet text = text
framed (Web channel) text = frames_of text

-- input is consumed: the typed text is appended to the waiting text, and these are the protocol's replies
abbrev pub Reads : (old new : Framing) → (bytes waiting typed answered : List ℕ) → Type 0
Reads Telnet new bytes waiting typed answered = (new ≡ Telnet) × (typed ≡ waiting ++ bytes) × (answered ≡ [])
Reads (Web old) new bytes waiting typed answered =
    (channel : Standing) × (new ≡ Web channel) × TakesIn old channel bytes waiting typed [] answered

-- input is consumed up to the frame that ends the connection with this error; the last reply is the close that it calls
-- for
abbrev pub Breaks : Framing → (bytes waiting typed answered : List ℕ) → Error → Type 0
Breaks Telnet bytes waiting typed answered e = ⊥
Breaks (Web channel) bytes waiting typed answered e = EndsWith channel bytes waiting typed [] answered e

-- one output of a web socket: the replies to these frames, and then this text as messages
pub record Leaving : Type 0 where
  pub answered : List Effect
  pub said : List ℕ

-- a web socket received the bytes `came`, which type `typed`, and sent `sent` for the text `said`. The frames received
-- were replied to, each once and in order, and the text was sent as messages. Nothing else was sent
pub record IsFramed (channel : Standing) (came typed said sent : List ℕ) : Type 0 where
  pub stands : StandsAfter channel came
  pub types : typed ≡ typed_of came
  pub leavings : List Leaving
  pub frames : (read_all new_connection came).effects ≡ flat_map (λ l. l.answered) leavings
  pub says : said ≡ flat_map (λ l. l.said) leavings
  pub leaves : sent ≡ flat_map (λ l. replies l.answered ++ frames_of l.said) leavings

-- for either framing: the bytes received and what they type, the text, and the bytes sent for it
abbrev pub Frames : Framing → (came typed said sent : List ℕ) → Type 0
Frames Telnet came typed said sent = (typed ≡ came) × (sent ≡ said)
Frames (Web channel) came typed said sent = IsFramed channel came typed said sent

-- a line of the server's own, which no text of the session follows; after a close of a web socket it is left out
abbrev pub last_words : Framing → List ℕ → List ℕ
last_words Telnet line = line
last_words (Web channel) line = if can_write channel.conn.state then frames_of line else []

-- the close of a web socket, if there is one and none was sent before
abbrev pub last_close : Framing → Option Ending → List ℕ
last_close (Web channel) (Some ending) = closes_once channel.conn.state ending
last_close framing ending = []
