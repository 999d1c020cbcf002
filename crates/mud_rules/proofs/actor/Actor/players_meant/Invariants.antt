use Rattle.std.proofs.Common.{◌≡◌, take}
use Rattle.std.specs.Prelude.{map, string_bytes}
use Rattle.mud_rules.specs.Journeys.{player_meant}
use Rattle.mud_rules.proofs.actor.Actor.players_meant.Given as goal

abbrev pub invariant-loop-part : goal.invariant-loop-part
invariant-loop-part l =
    l.found.items
    ≡ map (player_meant l.self.world.now l.self.player) (map string_bytes (take l.part-index l.part-items))
