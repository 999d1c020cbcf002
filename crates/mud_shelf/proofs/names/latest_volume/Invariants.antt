use Rattle.std.proofs.Common.{map, string_bytes, take}
use Rattle.mud_shelf.proofs.Spelled.{IsMost}
use Rattle.mud_shelf.proofs.names.latest_volume.Given as goal

-- the highest of the names so far
abbrev pub invariant-loop-name : goal.invariant-loop-name
invariant-loop-name l = IsMost l.journal (map string_bytes (take l.name-index l.names)) l.latest
