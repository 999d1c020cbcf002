-- The texts for connections without a place.
use Rattle.std.specs.Prelude.{ℕ, List, codes}
use Rattle.mud_web.specs.declared.closing.Ending.{Ending}
use Rattle.mud_web.specs.declared.closing.Ending.TheVariants.{ServerFull, TooManySessions}
use Rattle.mud_server_state.specs.declared.place.NoPlace.{NoPlace}
use Rattle.mud_server_state.specs.declared.place.NoPlace.TheVariants.{Full, TooMany}

-- the line for a Telnet connection without a place
abbrev pub no_place_line : NoPlace → List ℕ
no_place_line Full = codes "(server full)\r\n"
no_place_line TooMany = codes "(too many sessions)\r\n"

-- the close of the web socket of a browser without a place
abbrev pub no_place_close : NoPlace → Ending
no_place_close Full = ServerFull
no_place_close TooMany = TooManySessions
