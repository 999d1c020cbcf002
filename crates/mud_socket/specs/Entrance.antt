-- Entrances of sessions, and browsers that play over a web socket.
use Rattle.std.specs.Prelude.{◌≡◌, ℕ, List, [], codes, drop, Option}
use Rattle.std.specs.Io.KnownBytes.{Consumes}
use Rattle.websocket.specs.Handshake.{response_bytes}
use Rattle.mud_web.specs.declared.asking.Asked.TheVariants as Asked
use Rattle.mud_web.specs.Request.{LetsIn}
use Rattle.mud_socket.specs.declared.socket.Entrance.{Entrance}
use Rattle.mud_socket.specs.declared.socket.Entrance.TheVariants as By
use Rattle.mud_socket.specs.declared.head.Heard.{Heard}
use Rattle.mud_socket.specs.declared.head.Heard.TheVariants.{Play}

-- the word for an entrance in the log, and on the host's console
abbrev pub entrance_word : Entrance → List ℕ
entrance_word By.Telnet = codes "telnet"
entrance_word By.Web = codes "web"

-- a browser that plays sent a head that is admitted, at the beginning of the bytes read. The answer is that of its key,
-- and the rest is the bytes after the head
abbrev pub WasLetIn : Heard → (before after : Option (List ℕ)) → (origin : List ℕ) → Type 0
WasLetIn (Play answer rest) before after origin =
    (bytes : List ℕ) × Consumes before after bytes × (accept : List ℕ) × (len : ℕ)
    × LetsIn bytes origin (Asked.Play accept len) × (answer.items ≡ response_bytes accept [])
    × (rest.items ≡ drop len bytes)
WasLetIn other before after origin = Unit {0}
