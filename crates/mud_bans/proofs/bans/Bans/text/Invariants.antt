use Rattle.std.proofs.Common.{◌≡◌, take, string_bytes}
use Rattle.mud_bans.specs.Bans.{bans_text}
use Rattle.mud_bans.proofs.bans.Bans.text.Given as goal

-- the text has the networks so far
abbrev pub invariant-loop-network : goal.invariant-loop-network
invariant-loop-network l = string_bytes l.text ≡ bans_text (take l.network-index l.self)
