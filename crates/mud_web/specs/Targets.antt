-- The form of a host, and the targets that name a path (RFC 9110, section 4.2; RFC 9112, section 3.2).
use Rattle.std.specs.Prelude.{◌≡◌, ◌⊎◌, ◌<◌, ◌==◌, ◌||◌, ℕ, Bool, true, List, [], ◌∷◌, ◌++◌, length, codes}
use Rattle.std.specs.List.{list_any}
use Rattle.std.specs.Char.{is_ascii_alphanumeric, is_ascii_digit}
use Rattle.httparse.specs.Grammar.{AllPass}
use Rattle.httparse.specs.Ascii.{colon}
use Rattle.websocket.specs.Headers.{eq_ignore_case}

-- a byte of a name (RFC 3986, section 3.2.2): unreserved, part of a percent-encoded byte, or a sub-delimiter
abbrev pub is_host_byte : ℕ → Bool
is_host_byte b = is_ascii_alphanumeric b || list_any (λ c. c == b) (codes "-._~%!$&'()*+,;=")

-- a byte of an address in brackets
abbrev pub is_literal_byte : ℕ → Bool
is_literal_byte b = (b == colon) || is_host_byte b

-- a name, or an address in brackets
abbrev pub IsName : List ℕ → Type 0
IsName name = (0 < length name) × AllPass is_host_byte name

abbrev pub IsLiteral : List ℕ → Type 0
IsLiteral text =
    (address : List ℕ) × (0 < length address) × AllPass is_literal_byte address
    × (text ≡ codes "[" ++ (address ++ codes "]"))

-- the empty text, or a colon and digits
abbrev pub IsPort : List ℕ → Type 0
IsPort text = (text ≡ []) ⊎ ((digits : List ℕ) × AllPass is_ascii_digit digits × (text ≡ colon ∷ digits))

-- a host, and optionally a port
pub record IsHost (text : List ℕ) : Type 0 where
  pub host : List ℕ
  pub port : List ℕ
  pub is_host : IsName host ⊎ IsLiteral host
  pub is_port : IsPort port
  pub is : text ≡ host ++ port

-- this start, ignoring case, followed by a host
abbrev pub IsBehind : (start text : List ℕ) → Type 0
IsBehind start text =
    (front host : List ℕ) × (eq_ignore_case front start ≡ true) × IsHost host × (text ≡ front ++ host)

-- the part of an absolute target before the path
abbrev pub IsSite : List ℕ → Type 0
IsSite text = IsBehind (codes "http://") text ⊎ IsBehind (codes "https://") text

-- a target names a path: it is the path, or has the absolute form with it
abbrev pub Names : (target path : List ℕ) → Type 0
Names target path = (target ≡ path) ⊎ ((site : List ℕ) × IsSite site × (target ≡ site ++ path))
