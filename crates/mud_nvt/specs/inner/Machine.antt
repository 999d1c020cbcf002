-- A state machine that mirrors the code byte by byte. A lemma ties it to the definition: its output for a list of bytes
-- is the units of the list.
use Rattle.std.specs.Prelude.{ℕ, List, [], ◌∷◌, ◌++◌, length, take, ◌-◌, Option, Some, None, ◌==◌, nat_lt}
use Rattle.std.specs.Prelude.{Bool, true, false, if◌then◌else◌}
use Rattle.mud_nvt.specs.declared.codes.TheConstants.{IAC, SE, SB}
use Rattle.mud_nvt.specs.declared.TheConstants.{MOST}
use Rattle.mud_nvt.specs.declared.telnet.Piece.{Piece}
use Rattle.mud_nvt.specs.declared.telnet.Piece.TheVariants.{Data, Command, Request, Subnegotiation}
use Rattle.mud_nvt.specs.declared.telnet.Position.{Position}
use Rattle.mud_nvt.specs.declared.telnet.Position.TheVariants.{Between, BehindIac, BehindVerb, Inside, InsideBehindIac}
use Rattle.mud_nvt.specs.declared.strokes.Stroke.{Stroke}
use Rattle.mud_nvt.specs.declared.strokes.Stroke.TheVariants.{Character, EraseCharacter, EraseLine, EndLine}
use Rattle.mud_nvt.specs.declared.strokes.Stroke.TheVariants.{AreYouThere, Refuse}
use Rattle.mud_nvt.specs.Grammar.{is_verb}
use Rattle.mud_nvt.specs.Strokes.{stroke, is_cr}
use Rattle.mud_nvt.specs.Units.{Given, Text, TooLong, Ayt, Answer}
use Rattle.mud_nvt.specs.Held.{Held}

-- the position after the byte
abbrev pub next_place : Position → ℕ → Position
next_place Between b = if b == IAC then BehindIac else Between
next_place BehindIac b =
    if b == IAC then Between
    else if b == SB then Inside
    else if is_verb b then BehindVerb b
    else Between
next_place (BehindVerb verb) b = Between
next_place Inside b = if b == IAC then InsideBehindIac else Inside
next_place InsideBehindIac b = if b == SE then Between else Inside

-- the piece that the byte completes, if any
abbrev pub finished_piece : Position → ℕ → Option Piece
finished_piece Between b = if b == IAC then None else Some (Data b)
finished_piece BehindIac b =
    if b == IAC then Some (Data IAC)
    else if b == SB then None
    else if is_verb b then None
    else Some (Command b)
finished_piece (BehindVerb verb) b = Some (Request verb b)
finished_piece Inside b = None
finished_piece InsideBehindIac b = if b == SE then Some Subnegotiation else None

-- the initial state of a terminal
abbrev pub start : Held
start = record { place = Between; after_cr = false; text = []; too_long = false }

-- a text without its last character; the empty text stays empty
abbrev pub without_last : List ℕ → List ℕ
without_last text = take (length text - 1) text

-- the text with a character appended, if there is room
abbrev pub text_with : Bool → List ℕ → ℕ → List ℕ
text_with too_long text c = if too_long then text else (if nat_lt (length text) MOST then text ++ c ∷ [] else text)

-- the text after a stroke
abbrev pub next_text : Bool → List ℕ → Stroke → List ℕ
next_text too_long text (Character c) = text_with too_long text c
next_text too_long text EraseCharacter = without_last text
next_text too_long text EraseLine = []
next_text too_long text EndLine = []
next_text too_long text other = text

-- true if the line is too long after the stroke
abbrev pub next_too_long : Bool → List ℕ → Stroke → Bool
next_too_long too_long text (Character c) =
    if too_long then true else (if nat_lt (length text) MOST then false else true)
next_too_long too_long text EraseLine = false
next_too_long too_long text EndLine = false
next_too_long too_long text other = too_long

-- the units that a stroke completes
abbrev pub stroke_units : Bool → List ℕ → Stroke → List Given
stroke_units too_long text EndLine = (if too_long then TooLong else Text text) ∷ []
stroke_units too_long text AreYouThere = Ayt ∷ []
stroke_units too_long text (Refuse verb option) = Answer (IAC ∷ verb ∷ option ∷ []) ∷ []
stroke_units too_long text other = []

-- the state after a stroke
abbrev pub after_stroke : Held → Stroke → Held
after_stroke h s = record {
  place = h.place;
  after_cr = h.after_cr;
  text = next_text h.too_long h.text s;
  too_long = next_too_long h.too_long h.text s;
}

-- the state after a piece, if there is one
abbrev pub after_piece : Held → Option Piece → Held
after_piece h None = h
after_piece h (Some p) =
    record {
      place = h.place;
      after_cr = is_cr p;
      text = next_text h.too_long h.text (stroke h.after_cr p);
      too_long = next_too_long h.too_long h.text (stroke h.after_cr p);
    }

-- the units that a piece completes, if there is one
abbrev pub piece_units : Held → Option Piece → List Given
piece_units h None = []
piece_units h (Some p) = stroke_units h.too_long h.text (stroke h.after_cr p)

-- the state after a byte
abbrev pub next : Held → ℕ → Held
next h b =
    let g = after_piece h (finished_piece h.place b) in
    record { place = next_place h.place b; after_cr = g.after_cr; text = g.text; too_long = g.too_long }

-- the units that a byte completes
abbrev pub byte_units : Held → ℕ → List Given
byte_units h b = piece_units h (finished_piece h.place b)

-- the stroke of a piece, if there is one
abbrev pub piece_strokes : Held → Option Piece → List Stroke
piece_strokes h None = []
piece_strokes h (Some p) = stroke h.after_cr p ∷ []

-- the stroke of the piece that a byte completes, if any
abbrev pub byte_strokes : Held → ℕ → List Stroke
byte_strokes h b = piece_strokes h (finished_piece h.place b)

-- the state after these bytes
abbrev pub run : Held → List ℕ → Held
run h [] = h
run h (b ∷ bytes) = run (next h b) bytes

-- the units that these bytes complete
abbrev pub run_units : Held → List ℕ → List Given
run_units h [] = []
run_units h (b ∷ bytes) = byte_units h b ++ run_units (next h b) bytes
