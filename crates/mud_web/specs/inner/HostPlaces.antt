-- A host, byte by byte.
use Rattle.std.specs.Prelude.{ℕ, Bool, true, false, ◌==◌, if◌then◌else◌}
use Rattle.std.specs.Char.{is_ascii_digit}
use Rattle.httparse.specs.Ascii.{colon}
use Rattle.mud_web.specs.declared.host.HostPlace.{HostPlace}
use Rattle.mud_web.specs.declared.host.HostPlace.TheVariants.{Start, Name, Open, Literal, Shut, Port, Other}
use Rattle.mud_web.specs.Targets.{is_host_byte, is_literal_byte}

-- the position after one more byte
abbrev pub next : HostPlace → ℕ → HostPlace
next Start b = if is_host_byte b then Name else if b == 91 then Open else Other
next Name b = if is_host_byte b then Name else if b == colon then Port else Other
next Open b = if is_literal_byte b then Literal else Other
next Literal b = if is_literal_byte b then Literal else if b == 93 then Shut else Other
next Shut b = if b == colon then Port else Other
next Port b = if is_ascii_digit b then Port else Other
next Other b = Other

-- a host may end at this position
abbrev pub is_end : HostPlace → Bool
is_end Name = true
is_end Shut = true
is_end Port = true
is_end _ = false
