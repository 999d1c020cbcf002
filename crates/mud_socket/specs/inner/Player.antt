-- A browser that plays, and the bytes read from it.
use Rattle.std.specs.Prelude.{◌≡◌, ℕ, List, [], ◌++◌, Option}
use Rattle.std.specs.Io.KnownBytes.{Consumes}
use Rattle.websocket.specs.Handshake.{response_bytes}
use Rattle.mud_socket.specs.declared.head.Heard.{Heard}
use Rattle.mud_socket.specs.declared.head.Heard.TheVariants.{Play}

-- a browser plays after the answer to this key, and these bytes came after its head
abbrev pub IsPlaying : Heard → (accept rest : List ℕ) → Type 0
IsPlaying (Play answer behind) accept rest = (answer.items ≡ response_bytes accept []) × (behind.items ≡ rest)
IsPlaying other accept rest = ⊥

-- the bytes of the next read are appended
abbrev pub ReadsMore : (before after : Option (List ℕ)) → (old new : List ℕ) → Type 0
ReadsMore before after old new = (more : List ℕ) × Consumes before after more × (new ≡ old ++ more)
