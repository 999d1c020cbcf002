use Rattle.std.proofs.Common.{◌≡◌, ◌++◌, ◌∷◌, [], None, sym, ◌∙◌, subst}
use Rattle.mud_world.specs.Legal.{refusal}
use Rattle.mud_rules.specs.inner.Outcome.{IsActor}
use Rattle.mud_chron.specs.Entry.{Entry}
use Rattle.mud_chron.proofs.Spellable.{legal_is_spellable}
use Rattle.mud_hall.specs.Notices.{world_after}
use Rattle.mud_hall.specs.Desk.{View, IsHeld}
use Rattle.mud_hall.specs.declared.desk.Inner.{Inner}
use Rattle.mud_hall.proofs.Storing.{held-stored}
use Rattle.mud_hall.proofs.Worlds.{world-sound}
use Rattle.mud_hall.proofs.desk.Desk.store.Goals as goal

pub new-requires : goal.new-requires
new-requires g c =
    let list = c.self.inside.inner.value.replica.list in
    let legal : refusal (world_after list) c.args.change ≡ None =
    subst (λ (v : View). refusal (world_after v.state.seen) c.args.change ≡ None)
    (sym c.self.view_is) c.requires.lawful.0 in
    legal_is_spellable (world_after list) c.self.inside.number c.args.change
    (world-sound list) legal c.self.invariant.from c.self.invariant.to

pub invariant_of-self-in-Ok : goal.invariant_of-self-in-Ok
invariant_of-self-in-Ok g c =
    let j = g.J.HallName in
    let d = c.self.inside in
    let was : Inner = c.deref_mut-inner.result.now in
    let boxed : d.inner.value ≡ was = sym c.deref_mut-inner.ensures.value in
    let own : Entry → Type 0 = λ x. c.publish.new.self.list ≡ was.replica.list ++ x ∷ [] in
    let legal : refusal (world_after was.replica.list) c.args.change ≡ None =
    subst (λ (i : Inner). refusal (world_after i.replica.list) c.args.change ≡ None) boxed
    (subst (λ (v : View). refusal (world_after v.state.seen) c.args.change ≡ None)
    (sym c.self.view_is) c.requires.lawful.0) in
    let actor : IsActor (world_after was.replica.list) d.player c.args.change =
    subst (λ (i : Inner). IsActor (world_after i.replica.list) d.player c.args.change) boxed
    (subst (λ (v : View). IsActor (world_after v.state.seen) v.state.player c.args.change)
    (sym c.self.view_is) c.requires.lawful.1) in
    held-stored j.cells j.loaded d.number d.player was.traveller was.replica c.publish.new.self c.args.change
    (subst (λ (i : Inner). IsHeld j.cells j.loaded d.number d.player i.traveller i.replica) boxed c.self.invariant)
    (subst own (c.in_ok-entry.ensures.ok ∙ c.new.ensures) c.in-Ok.ensures.published.0)
    c.in-Ok.ensures.still c.in-Ok.ensures.within legal actor
