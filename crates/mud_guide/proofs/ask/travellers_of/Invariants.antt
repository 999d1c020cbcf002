use Rattle.std.proofs.Common.{◌≡◌, take, map}
use Rattle.std.specs.Prelude.{All}
use Rattle.mud_roads.specs.Passable.{IsTraveller}
use Rattle.mud_guide.proofs.ask.travellers_of.Given as goal

abbrev pub invariant-loop-player : goal.invariant-loop-player
invariant-loop-player l = record {
  travellers : All (IsTraveller l.world) l.travellers.items;
  players : map (λ t. t.player) l.travellers.items ≡ take l.player-index l.party;
}
