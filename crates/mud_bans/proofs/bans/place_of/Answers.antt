use Rattle.std.proofs.Common.{sym, ◌∙◌}
use Rattle.mud_bans.proofs.Places.{first_place, no_place}
use Rattle.mud_bans.proofs.bans.place_of.Goals as goal

pub returns-then-is_same : goal.returns-then-is_same
returns-then-is_same c =
    first_place c.args.list.now c.args.network _ c.loop-at.at c.loop-at-test.true c.loop-at.invariant
    (sym c.is_same.ensures ∙ c.if-is_same.true)

pub returns : goal.returns
returns c = no_place c.args.list.now c.args.network c.loop-at.at c.loop-at-test.false c.loop-at.invariant
