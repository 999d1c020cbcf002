use Rattle.std.proofs.Common.{◌≡◌, drop}
use Rattle.mud_compact.specs.Shorter.{has_talk}
use Rattle.mud_compact.proofs.talk.has_talk.Given as goal

-- there is no talk so far
abbrev pub invariant-loop-entry : goal.invariant-loop-entry
invariant-loop-entry l = has_talk (drop l.entry-index l.entries) ≡ has_talk l.entries
