use Rattle.std.proofs.Common.{take, sym, subst}
use Rattle.std.proofs.lemmas.List.{take_more}
use Rattle.mud_survey.specs.inner.Trailed.{IsTrailed}
use Rattle.mud_survey.proofs.Trailing.{rising-below}
use Rattle.mud_survey.proofs.finding.trails_of.Goals as goal

pub add-requires-clause-player : goal.add-requires-clause-player
add-requires-clause-player c = c.requires.players c.loop-player.player-index 0 c.loop-player-test.true

pub loop-player-preserved : goal.loop-player-preserved
loop-player-preserved c =
    let ps = c.args.players.now in
    let i = c.loop-player.player-index in
    subst (λ l. IsTrailed c.args.world.now l c.add.new.self) (sym (take_more ps i 0 c.loop-player-test.true))
    (c.in_ok-add.ensures (take i ps) (rising-below ps c.requires.rising i c.loop-player-test.true)
    c.loop-player.invariant)
