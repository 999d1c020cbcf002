-- A grammar of the stream: each piece has its spellings, and the rest is less than a whole piece.
use Rattle.std.specs.Prelude.{ℕ, List, [], ◌∷◌, ◌++◌, ◌==◌, true, false, ◌≡◌, ◌≢◌, ◌||◌, Bool}
use Rattle.mud_nvt.specs.declared.codes.TheConstants.{IAC, SE, SB, WILL, WONT, DO, DONT}
use Rattle.mud_nvt.specs.declared.telnet.Piece.{Piece}
use Rattle.mud_nvt.specs.declared.telnet.Piece.TheVariants.{Data, Command, Request, Subnegotiation}

-- true for the four verbs that concern an option
abbrev pub is_verb : ℕ → Bool
is_verb b = (b == WILL) || (b == WONT) || (b == DO) || (b == DONT)

-- the inside of a subnegotiation: bytes, and IAC followed by a byte that is not SE
pub data IsInside : List ℕ → Type 0 where
  at_end : IsInside []
  a_byte : (b : ℕ) (bytes : List ℕ) → (b == IAC) ≡ false → IsInside bytes → IsInside (b ∷ bytes)
  a_pair : (b : ℕ) (bytes : List ℕ) → (b == SE) ≡ false → IsInside bytes → IsInside (IAC ∷ b ∷ bytes)

-- the bytes spell the piece
pub data Spells : Piece → List ℕ → Type 0 where
  a_plain_byte : (b : ℕ) → (b == IAC) ≡ false → Spells (Data b) (b ∷ [])
  a_doubled_iac : Spells (Data IAC) (IAC ∷ IAC ∷ [])
  a_command : (b : ℕ) → (b == IAC) ≡ false → (b == SB) ≡ false → is_verb b ≡ false → Spells (Command b) (IAC ∷ b ∷ [])
  a_request : (verb option : ℕ) → is_verb verb ≡ true → Spells (Request verb option) (IAC ∷ verb ∷ option ∷ [])
  a_subnegotiation : (inside : List ℕ) → IsInside inside → Spells Subnegotiation (IAC ∷ SB ∷ (inside ++ IAC ∷ SE ∷ []))

-- the bytes are the spellings of these pieces in order, followed by a rest that does not begin with a piece
pub data Cuts : List ℕ → List Piece → Type 0 where
  to_rest : (rest : List ℕ) → ((p : Piece) (front back : List ℕ) → Spells p front → rest ≢ front ++ back) → Cuts rest []
  to_piece : (p : Piece) (front back : List ℕ) (ps : List Piece) → Spells p front → Cuts back ps
      → Cuts (front ++ back) (p ∷ ps)
