-- The pieces of a stream.
use Rattle.std.specs.Prelude.{ℕ, List, length}
use Rattle.mud_nvt.specs.declared.telnet.Piece.{Piece}
use Rattle.mud_nvt.specs.inner.Telnet.{pieces_up_to}

-- the whole pieces of these bytes. A reader need not look into this: the law `cutting` states it by the grammar
abbrev pub pieces : List ℕ → List Piece
pieces bytes = pieces_up_to (length bytes) bytes
