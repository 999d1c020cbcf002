use Rattle.std.proofs.Common.{◌≡◌, drop, map}
use Rattle.std.specs.Prelude.{string_bytes}
use Rattle.mud_world.specs.State.{is_taken}
use Rattle.mud_world.proofs.world.World.is_taken.Given as goal

-- the rest gives the result of the whole
abbrev pub invariant-loop-name : goal.invariant-loop-name
invariant-loop-name l =
    is_taken l.self l.number l.names ≡ is_taken l.self l.number (map string_bytes (drop l.name-index l.name-items))
