use Rattle.std.proofs.Common.{◌≡◌, ◌⊎◌, map, ap, sym, subst, List, ◌∙◌}
use Rattle.std.specs.Prelude.{string_bytes, nat_lt, length, if◌then◌else◌}
use mathlib.Core.List.{IsPrefix}
use Rattle.mud_chron.specs.Entry.{Entry}
use Rattle.mud_hall.specs.Desk.{IsHeld}
use Rattle.mud_hall.specs.inner.Desks.{state_of}
use Rattle.mud_hall.specs.declared.desk.Inner.{Inner}
use Rattle.mud_hall.proofs.Learning.{learned}
use Rattle.mud_hall.proofs.Notices.{grows}
use Rattle.mud_hall.proofs.Seats.{held-on}
use Rattle.mud_hall.proofs.desk.Desk.learn.Goals as goal

pub invariant_of-self : goal.invariant_of-self
invariant_of-self g c =
    let j = g.J.HallName in
    let d = c.self.inside in
    let was : Inner = c.deref_mut.result.now in
    held-on j.cells j.loaded d.number d.player was.traveller was.replica c.learn.new.self
    (subst (λ (i : Inner). IsHeld j.cells j.loaded d.number d.player i.traveller i.replica)
    (sym c.deref_mut.ensures.value) c.self.invariant)
    c.learn.ensures.mine c.learn.ensures.still c.learn.ensures.within

pub returns-clause-learns : goal.returns-clause-learns
returns-clause-learns g c =
    let d = c.self.inside in
    let was : Inner = c.deref_mut.result.now in
    let list : List Entry = was.replica.list in
    let new : List Entry = c.learn.new.self.list in
    let other : List Entry = c.args.other.now.state.seen in
    let mine = ap (λ (i : Inner). i.replica.list) c.deref_mut.ensures.value ∙ ap (λ v. v.state.seen) c.self.view_is in
    let theirs = ap (λ (i : Inner). i.replica.list) c.deref_mut-2.ensures.value
    ∙ ap (λ v. v.state.seen) c.other.view_is in
    record {
      takes_in = grows was.replica c.learn.new.self c.args.self.now.state d.number d.player was.calls.items
          (map string_bytes was.told.items)
          c.learn.ensures.mine c.learn.ensures.still.1 c.learn.ensures.within
          (ap (λ (i : Inner). state_of d.number d.player i.replica i.calls.items (map string_bytes i.told.items))
          c.deref_mut.ensures.value ∙ ap (λ v. v.state) c.self.view_is);
      longer = subst (λ (l : List Entry). new ≡ (if nat_lt (length l) (length other) then other else l)) mine
          (learned list other new
          (subst (λ (l : List Entry). (new ≡ list) ⊎ (new ≡ l)) theirs c.learn.ensures.longer)
          c.learn.ensures.mine (subst (λ (l : List Entry). IsPrefix l new) theirs c.learn.ensures.theirs));
    }
