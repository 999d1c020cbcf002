use Rattle.std.proofs.Common.{◌≡◌, ◌++◌, drop}
use Rattle.mud_server_volume.proofs.proposal.copies.Given as goal

-- the copies and the rest make up the whole
abbrev pub invariant-loop-entry : goal.invariant-loop-entry
invariant-loop-entry l = l.copies.items ++ drop l.entry-index l.entries ≡ l.entries
