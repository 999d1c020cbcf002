-- The effect of the pieces on the current line. Every command, request, subnegotiation and data byte is a piece of its
-- own. So the byte after a CR is a LF exactly if the next piece is one, and in CR, IAC NOP, LF a command comes in
-- between.
use Rattle.std.specs.Prelude.{ℕ, List, [], ◌∷◌, ◌++◌, length, take, map, ◌-◌, ◌==◌, ◌||◌, ◌&&◌, nat_lt, nat_le, Bool}
use Rattle.std.specs.Prelude.{false, if◌then◌else◌}
use Rattle.std.specs.List.{zip}
use Rattle.mud_nvt.specs.declared.codes.TheConstants.{WILL, WONT, DO, DONT, AYT, EC, EL, NUL, BS, HT, LF, CR, DEL}
use Rattle.mud_nvt.specs.declared.codes.TheConstants.{SPACE, TILDE}
use Rattle.mud_nvt.specs.declared.TheConstants.{MOST}
use Rattle.mud_nvt.specs.declared.telnet.Piece.{Piece}
use Rattle.mud_nvt.specs.declared.telnet.Piece.TheVariants.{Data, Command, Request, Subnegotiation}
use Rattle.mud_nvt.specs.declared.strokes.Stroke.{Stroke}
use Rattle.mud_nvt.specs.declared.strokes.Stroke.TheVariants.{Character, EraseCharacter, EraseLine, EndLine}
use Rattle.mud_nvt.specs.declared.strokes.Stroke.TheVariants.{AreYouThere, Refuse, Nothing}

-- true if the piece is the data byte CR
abbrev pub is_cr : Piece → Bool
is_cr (Data b) = b == CR
is_cr other = false

-- the effect of a piece; the flag says whether a CR comes right before it. CR and LF end the line, except a LF or NUL
-- right after a CR. DO is refused by WONT and WILL by DONT; WONT and DONT are never answered
abbrev pub stroke : Bool → Piece → Stroke
stroke after_cr (Data b) =
    if after_cr && ((b == LF) || (b == NUL)) then Nothing
    else (if (b == LF) || (b == CR) then EndLine
    else (if b == HT then Character SPACE
    else (if (b == BS) || (b == DEL) then EraseCharacter
    else (if nat_le SPACE b && nat_le b TILDE then Character b
    else Nothing))))
stroke after_cr (Command b) =
    if b == AYT then AreYouThere else (if b == EC then EraseCharacter else (if b == EL then EraseLine else Nothing))
stroke after_cr (Request verb option) =
    if verb == DO then Refuse WONT option else (if verb == WILL then Refuse DONT option else Nothing)
stroke after_cr Subnegotiation = Nothing

-- the effect of each piece, given whether the piece before it is a CR
abbrev pub strokes : List Piece → List Stroke
strokes ps = map (λ p. stroke p.0 p.1) (zip (false ∷ map is_cr ps) ps)

-- the current line after these strokes, the latest stroke first
abbrev pub line : List Stroke → List ℕ
line [] = []
line (Character c ∷ earlier) = line earlier ++ c ∷ []
line (EraseCharacter ∷ earlier) = take (length (line earlier) - 1) (line earlier)
line (EraseLine ∷ earlier) = []
line (EndLine ∷ earlier) = []
line (other ∷ earlier) = line earlier

-- true if the current line held more than 1,000 characters at some time since it began or since the last EL
abbrev pub is_too_long : List Stroke → Bool
is_too_long [] = false
is_too_long (EraseLine ∷ earlier) = false
is_too_long (EndLine ∷ earlier) = false
is_too_long (s ∷ earlier) = nat_lt MOST (length (line (s ∷ earlier))) || is_too_long earlier
