-- The pieces of bytes, in order.
use Rattle.std.specs.Prelude.{ℕ, zero, suc, List, [], ◌∷◌, Option, Some, None, ◌==◌, if◌then◌else◌}
use Rattle.mud_nvt.specs.declared.codes.TheConstants.{IAC, SE, SB}
use Rattle.mud_nvt.specs.declared.telnet.Piece.{Piece}
use Rattle.mud_nvt.specs.declared.telnet.Piece.TheVariants.{Data, Command, Request, Subnegotiation}
use Rattle.mud_nvt.specs.Grammar.{is_verb}

-- the bytes after the IAC SE that ends a subnegotiation. Inside it IAC and the next byte belong together, and both are
-- skipped if that byte is not SE
abbrev pub behind_end : List ℕ → Option (List ℕ)
behind_end [] = None
behind_end (a ∷ []) = None
behind_end (a ∷ b ∷ bytes) =
    if a == IAC then (if b == SE then Some bytes else behind_end bytes) else behind_end (b ∷ bytes)

-- the request that begins with IAC and this verb, and the bytes after its option
abbrev pub request : ℕ → List ℕ → Option (Piece × List ℕ)
request verb [] = None
request verb (option ∷ bytes) = Some (Request verb option, bytes)

-- the subnegotiation that ends before these bytes, if it ends, and the bytes after it
abbrev pub subnegotiation : Option (List ℕ) → Option (Piece × List ℕ)
subnegotiation None = None
subnegotiation (Some bytes) = Some (Subnegotiation, bytes)

-- the piece that begins with IAC and these bytes, and the bytes after it
abbrev pub behind_iac : List ℕ → Option (Piece × List ℕ)
behind_iac [] = None
behind_iac (b ∷ bytes) =
    if b == IAC then Some (Data IAC, bytes)
    else (if b == SB then subnegotiation (behind_end bytes)
    else (if is_verb b then request b bytes
    else Some (Command b, bytes)))

-- the first piece of these bytes and the bytes after it, or None if it is not whole yet
abbrev pub first_piece : List ℕ → Option (Piece × List ℕ)
first_piece [] = None
first_piece (b ∷ bytes) = if b == IAC then behind_iac bytes else Some (Data b, bytes)

-- the first n whole pieces of these bytes
abbrev pub pieces_up_to : ℕ → List ℕ → List Piece
pieces_up_to zero bytes = []
pieces_up_to (suc n) bytes = elim (first_piece bytes) [ None ↦ [] | Some p ↦ p.0 ∷ pieces_up_to n p.1 ]
