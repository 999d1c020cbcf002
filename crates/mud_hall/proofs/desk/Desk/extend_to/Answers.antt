use Rattle.std.proofs.Common.{map, ap, sym, subst, ◌∙◌}
use Rattle.std.specs.Prelude.{string_bytes}
use Rattle.mud_hall.specs.Desk.{IsHeld}
use Rattle.mud_hall.specs.inner.Desks.{state_of}
use Rattle.mud_hall.specs.declared.desk.Inner.{Inner}
use Rattle.mud_hall.proofs.Notices.{grows}
use Rattle.mud_hall.proofs.Seats.{held-on}
use Rattle.mud_hall.proofs.desk.Desk.extend_to.Goals as goal

pub invariant_of-self : goal.invariant_of-self
invariant_of-self g c =
    let j = g.J.HallName in
    let d = c.self.inside in
    let was : Inner = c.deref_mut.result.now in
    held-on j.cells j.loaded d.number d.player was.traveller was.replica c.extend_to.new.self
    (subst (λ (i : Inner). IsHeld j.cells j.loaded d.number d.player i.traveller i.replica)
    (sym c.deref_mut.ensures.value) c.self.invariant)
    c.extend_to.ensures.longer c.extend_to.ensures.still c.extend_to.ensures.within

pub returns-clause-state : goal.returns-clause-state
returns-clause-state g c =
    let d = c.self.inside in
    let was : Inner = c.deref_mut.result.now in
    grows was.replica c.extend_to.new.self c.args.self.now.state d.number d.player was.calls.items
    (map string_bytes was.told.items)
    c.extend_to.ensures.longer c.extend_to.ensures.still.1 c.extend_to.ensures.within
    (ap (λ (i : Inner). state_of d.number d.player i.replica i.calls.items (map string_bytes i.told.items))
    c.deref_mut.ensures.value ∙ ap (λ v. v.state) c.self.view_is)
