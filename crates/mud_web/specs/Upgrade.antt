-- The heads that upgrade to a web socket (RFC 6455, section 4.2.1).
use Rattle.std.specs.Prelude.{◌≡◌, ◌==◌, ◌||◌, ℕ, Bool, true, List, [], ◌∷◌, ◌++◌, length, codes}
use Rattle.std.specs.Char.{is_ascii_alphanumeric}
use Rattle.httparse.specs.Grammar.{AllPass}
use Rattle.websocket.specs.Headers.{Fields}
use Rattle.mud_web.specs.Fields.{values, has_member}

-- a symbol of base64: a letter, a digit, `+` or `/`
abbrev pub is_symbol : ℕ → Bool
is_symbol b = is_ascii_alphanumeric b || (b == 43) || (b == 47)

-- 22 symbols of base64 and two `=`, which decode to 16 bytes
abbrev pub IsKey : List ℕ → Type 0
IsKey key = (symbols : List ℕ) × (length symbols ≡ 22) × AllPass is_symbol symbols × (key ≡ symbols ++ codes "==")

-- exactly one field is named Sec-WebSocket-Version, and its value is 13
abbrev pub Has13 : Fields → Type 0
Has13 fields = values fields (codes "Sec-WebSocket-Version") ≡ codes "13" ∷ []

-- the fields upgrade to a web socket with this key, the value of the single field Sec-WebSocket-Key
pub record AsksKey (fields : Fields) (key : List ℕ) : Type 0 where
  pub connection : has_member fields (codes "Connection") (codes "Upgrade") ≡ true
  pub upgrade : has_member fields (codes "Upgrade") (codes "websocket") ≡ true
  pub one : values fields (codes "Sec-WebSocket-Key") ≡ key ∷ []
  pub is_key : IsKey key
