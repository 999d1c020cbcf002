use Rattle.std.proofs.Common.{◌≤◌, drop}
use Rattle.mud_survey.specs.inner.Marks.{IsFlood, work_left}
use Rattle.mud_survey.proofs.back.Flood.follow_all.Given as goal

-- the exits so far are followed
abbrev pub invariant-loop-exit : goal.invariant-loop-exit
invariant-loop-exit l = record {
  flood : IsFlood l.world l.traveller.player l.self.marks.items l.self.waiting.items (drop l.exit-index l.exits);
  work : work_left l.self.marks.items l.self.waiting.items ≤ work_left l.initial.self.marks.items
      l.initial.self.waiting.items;
}
