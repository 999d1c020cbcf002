-- The turn of two listeners.
use Rattle.std.specs.Prelude.{Bool, true, false, Option, None, Some}
use Rattle.mud_socket.specs.declared.socket.Entrance.{Entrance}
use Rattle.mud_socket.specs.declared.socket.Entrance.TheVariants.{Telnet, Web}

-- the listener to accept from: the one that is ready, or the one whose turn it is if both are
abbrev pub turn_of : (telnet web is_web_next : Bool) → Option Entrance
turn_of false false is_web_next = None
turn_of true false is_web_next = Some Telnet
turn_of false true is_web_next = Some Web
turn_of true true true = Some Web
turn_of true true false = Some Telnet
