use Rattle.std.proofs.Common.{◌≡◌, false, take}
use Rattle.std.specs.List.{list_any}
use Rattle.mud_bans.specs.Network.{covers}
use Rattle.mud_bans.proofs.bans.Bans.covers.Given as goal

-- no network so far contains the address
abbrev pub invariant-loop-network : goal.invariant-loop-network
invariant-loop-network l = list_any (λ net. covers net l.address) (take l.network-index l.self) ≡ false
