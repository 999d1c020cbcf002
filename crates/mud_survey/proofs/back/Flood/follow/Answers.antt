use Rattle.std.proofs.Common.{◌≤◌, set, sym, subst, arith, true}
use Rattle.mud_survey.specs.inner.Marks.{IsFlood, work_left}
use Rattle.mud_survey.proofs.Flooding.{followed-shut, followed-none, followed-marked, followed-new, source-inside}
use Rattle.mud_survey.proofs.Counting.{work-marked}
use Rattle.mud_survey.proofs.back.Flood.follow.Goals as goal

pub returns-then-not-passes-clause-flood : goal.returns-then-not-passes-clause-flood
returns-then-not-passes-clause-flood c =
    followed-shut c.args.world.now c.args.traveller.now.player c.args.exit c.args.self.now.marks.items
    c.args.self.now.waiting.items (sym c.if-not-passes.ensures)

pub returns-in_default-clause-flood : goal.returns-in_default-clause-flood
returns-in_default-clause-flood c =
    followed-none c.args.world.now c.args.traveller.now.player c.args.exit c.args.self.now.marks.items
    c.args.self.now.waiting.items (sym c.in_default.ensures)

pub returns-then-not-leads_on-clause-flood : goal.returns-then-not-leads_on-clause-flood
returns-then-not-leads_on-clause-flood c =
    followed-marked c.args.world.now c.args.traveller.now.player c.args.exit c.in-Some.passage
    c.args.self.now.marks.items c.args.self.now.waiting.items (sym c.in-Some.ensures) c.if-not-leads_on.ensures

pub returns-clause-flood : goal.returns-clause-flood
returns-clause-flood c =
    let w = c.args.world.now in
    let p = c.args.traveller.now.player in
    let marks = c.args.self.now.marks.items in
    let waiting = c.args.self.now.waiting.items in
    λ left flood. subst (λ l. IsFlood w p l c.push.new.self.items left) (sym c.mark.ensures)
    (subst (λ l. IsFlood w p (set marks c.in-Some.passage.source true) l left) (sym c.in_ok-push.ensures.items)
    (followed-new w c.next_number-known.ensures.sound p c.args.exit c.in-Some.passage marks waiting
    (sym c.in-Some.ensures) (sym c.if-not-passes.ensures) c.if-not-leads_on.ensures.1 left flood))

pub returns-clause-work : goal.returns-clause-work
returns-clause-work c =
    let w = c.args.world.now in
    let marks = c.args.self.now.marks.items in
    let waiting = c.args.self.now.waiting.items in
    let source = c.in-Some.passage.source in
    λ left flood. subst (λ l. work_left l c.push.new.self.items ≤ work_left marks waiting) (sym c.mark.ensures)
    (subst (λ l. work_left (set marks source true) l ≤ work_left marks waiting) (sym c.in_ok-push.ensures.items)
    (work-marked marks waiting source
    (let below = source-inside w c.next_number-known.ensures.sound c.args.exit c.in-Some.passage
    (sym c.in-Some.ensures) in let size = flood.size in omega (arith, below, size))
    c.if-not-leads_on.ensures.0))
