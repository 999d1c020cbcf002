use Rattle.std.proofs.Common.{◌≡◌, take}
use Rattle.mud_compact.specs.Shorter.{without_talk}
use Rattle.mud_compact.proofs.talk.work_of.Given as goal

-- the entries so far that are not talk
abbrev pub invariant-loop-entry : goal.invariant-loop-entry
invariant-loop-entry l = l.kept.items ≡ without_talk (take l.entry-index l.entries)
