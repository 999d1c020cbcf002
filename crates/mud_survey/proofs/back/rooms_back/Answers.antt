use Rattle.std.proofs.Common.{◌≡◌, ◌-◌, ◌++◌, [], take, sym, ap, ◌∙◌, subst, arith}
use Rattle.mud_survey.specs.inner.Marks.{IsFlood, work_left}
use Rattle.mud_survey.proofs.Flooding.{taken, flooded}
use Rattle.mud_survey.proofs.Counting.{work-taken}
use Rattle.mud_survey.proofs.back.rooms_back.Goals as goal

pub follow_all-requires-clause-flood : goal.follow_all-requires-clause-flood
follow_all-requires-clause-flood c =
    let w = c.args.world.now in
    let p = c.args.traveller.now.player in
    let marks = c.loop-room.flood.marks.items in
    let waiting = c.pop.new.self.items in
    subst (IsFlood w p marks waiting) (sym c.arriving.ensures)
    (taken w c.next_number-known.ensures.sound p c.in-Some.room marks waiting
    (subst (λ l. IsFlood w p marks l []) c.in-Some.ensures.items c.loop-room.invariant))

pub loop-room-smaller : goal.loop-room-smaller
loop-room-smaller c =
    let marks = c.loop-room.flood.marks.items in
    let waiting = c.pop.new.self.items in
    let less = c.in_ok-follow_all.ensures.work in
    let taken = work-taken marks waiting c.in-Some.room in
    let was = ap (work_left marks) c.in-Some.ensures.items in
    omega (arith, less, taken, was)

pub returns : goal.returns
returns c =
    let w = c.args.world.now in
    let p = c.args.traveller.now.player in
    let marks = c.loop-room.flood.marks.items in
    let waiting = c.loop-room.flood.waiting.items in
    let none : waiting ≡ [] =
    c.in_default.ensures.items
    ∙ ap (λ l. l ++ []) (c.in_default.ensures.rest ∙ ap (λ n. take (n - 1) waiting) c.in_default.ensures.cases.0) in
    flooded w c.next_number-known.ensures.sound p marks
    (subst (λ l. IsFlood w p marks l []) none c.loop-room.invariant)
