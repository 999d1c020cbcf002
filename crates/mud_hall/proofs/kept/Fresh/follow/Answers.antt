use Rattle.std.proofs.Common.{List, subst, sym, ◌∙◌}
use mathlib.Core.List.{IsPrefix}
use Rattle.mud_chron.specs.Entry.{Entry}
use Rattle.mud_hall.proofs.Seats.{prefix_trans}
use Rattle.mud_hall.proofs.kept.Fresh.follow.Goals as goal

pub invariant_of-self : goal.invariant_of-self
invariant_of-self g c =
    let loaded : List Entry = g.J.HallName.loaded in (
      c.take_some_in.ensures.row ∙ c.extend.ensures.still.0 ∙ c.self.invariant.0,
      subst (λ (l : List Entry). IsPrefix loaded l) (sym c.take_some_in.ensures.list)
          (prefix_trans loaded c.self.inside.known.list c.extend.new.self.list c.self.invariant.1
          c.extend.ensures.longer),
    )
