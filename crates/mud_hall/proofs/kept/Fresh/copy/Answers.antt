use Rattle.std.proofs.Common.{◌≡◌, List, sym, subst, ◌∙◌}
use mathlib.Core.List.{IsPrefix}
use Rattle.mud_chron.specs.Entry.{Entry}
use Rattle.mud_row.specs.Known.{Standing}
use Rattle.mud_hall.proofs.Seats.{prefix_trans}
use Rattle.mud_hall.proofs.kept.Fresh.copy.Goals as goal

pub invariant_of-self : goal.invariant_of-self
invariant_of-self g c = (
  c.see.ensures.still ∙ c.self.invariant.0,
  prefix_trans g.J.HallName.loaded c.self.inside.known.list c.see.new.self.list c.self.invariant.1
      c.see.ensures.longer,
)

pub invariant_of-self-2 : goal.invariant_of-self-2
invariant_of-self-2 g c =
    let loaded : List Entry = g.J.HallName.loaded in
    let Fits : Standing → Type 0 = λ r. (r.row ≡ g.J.HallName.cells) × IsPrefix loaded r.list in
    subst Fits (sym c.copy.ensures.same) (
      c.see.ensures.still ∙ c.self.invariant.0,
      prefix_trans loaded c.self.inside.known.list c.see.new.self.list c.self.invariant.1 c.see.ensures.longer,
    )
