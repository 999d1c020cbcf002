use Rattle.mud_theorems.proofs.Lasting.{lasts}
use Rattle.mud_theorems.proofs.laws.survival.Goals as goal

pub returns : goal.returns
returns c =
    lasts
    (record {
      guide = c.guide.ensures;
      going_on = c.going_on.ensures;
      always_read = c.always_read.ensures;
      nothing_is_lost = c.nothing_is_lost.ensures;
    })
