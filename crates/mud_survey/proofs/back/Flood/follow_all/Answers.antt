use Rattle.std.proofs.Common.{◌+◌, drop, subst, arith}
use Rattle.std.proofs.lemmas.List.{drop_more, drop_all}
use Rattle.mud_survey.specs.inner.Marks.{IsFlood}
use Rattle.mud_survey.proofs.back.Flood.follow_all.Goals as goal

pub loop-exit-preserved : goal.loop-exit-preserved
loop-exit-preserved c =
    let exits = c.args.exits.now in
    let i = c.loop-exit.exit-index in
    let here = subst
    (IsFlood c.args.world.now c.args.traveller.now.player c.loop-exit.self.marks.items c.loop-exit.self.waiting.items)
    (drop_more exits i 0 c.loop-exit-test.true) c.loop-exit.invariant.flood in
    record {
      flood = c.in_ok-follow.ensures.flood (drop (i + 1) exits) here;
      work = let less = c.in_ok-follow.ensures.work (drop (i + 1) exits) here in
          let before = c.loop-exit.invariant.work in omega (arith, less, before);
    }

pub returns-clause-flood : goal.returns-clause-flood
returns-clause-flood c =
    subst
    (IsFlood c.args.world.now c.args.traveller.now.player c.loop-exit.self.marks.items c.loop-exit.self.waiting.items)
    (drop_all c.loop-exit.exit-index c.args.exits.now (omega (arith, c.loop-exit-test.false)))
    c.loop-exit.invariant.flood
