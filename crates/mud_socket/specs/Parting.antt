-- The last line of a session, and the close of its web socket.
use Rattle.std.specs.Prelude.{ℕ, List, codes, Option, None, Some}
use Rattle.mud_web.specs.declared.closing.Ending.{Ending as Close}
use Rattle.mud_web.specs.declared.closing.Ending.TheVariants as Close
use Rattle.mud_socket.specs.declared.parting.Ending.{Ending}
use Rattle.mud_socket.specs.declared.parting.Ending.TheVariants as Ended
use Rattle.mud_socket.specs.declared.parting.Parting.{Parting}
use Rattle.mud_socket.specs.declared.parting.Parting.TheVariants as By
use Rattle.websocket.specs.declared.error.Error.{Error}
use Rattle.websocket.specs.declared.error.Error.TheVariants as Failed

-- the reason of a session that is ended from outside
abbrev pub parting_of : Ending → Parting
parting_of Ended.Stop = By.ServerStops
parting_of Ended.JournalFault = By.JournalFault
parting_of Ended.ByHost = By.Ended

-- the reason of a session whose web socket ended with this error
abbrev pub parting_of_error : Error → Parting
parting_of_error (Failed.Protocol fault) = By.BrokenFrame
parting_of_error (Failed.Capacity fault) = By.BrokenFrame
parting_of_error Failed.Utf8 = By.BrokenFrame
parting_of_error Failed.OutOfMemory = By.OutOfMemory
parting_of_error Failed.ConnectionClosed = By.Left
parting_of_error Failed.AlreadyClosed = By.Left

-- the last line for a session that is ended from outside
abbrev pub ending_line : Ending → List ℕ
ending_line Ended.Stop = codes "(server stops)\r\n"
ending_line Ended.JournalFault = codes "(journal fault)\r\n"
ending_line Ended.ByHost = codes "(ended by the host)\r\n"

-- the last line of a session
abbrev pub line_of : Parting → Option (List ℕ)
line_of By.ServerStops = Some (ending_line Ended.Stop)
line_of By.JournalFault = Some (ending_line Ended.JournalFault)
line_of By.Ended = Some (ending_line Ended.ByHost)
line_of other = None

-- the close of a web socket: none after a text that was not taken whole, and none if a broken frame was already
-- answered by a close; a browser's request ends only Telnet sessions
abbrev pub close_of : Parting → Option Close
close_of By.Left = Some Close.Normal
close_of By.Idle = Some Close.Normal
close_of By.Unnamed = Some Close.Normal
close_of By.Ended = Some Close.Normal
close_of By.WriteTimeout = None
close_of By.BrokenFrame = None
close_of By.Request = None
close_of By.OutOfMemory = Some Close.InternalError
close_of By.ServerStops = Some Close.GoingAway
close_of By.JournalFault = Some Close.GoingAway
