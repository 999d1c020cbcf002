use Rattle.std.proofs.Common.{None, subst, sym, refl}
use Rattle.mud_world.specs.State.{State}
use Rattle.mud_world.specs.inner.Maps.{state_of}
use Rattle.mud_world.proofs.Kept.{kept-keyed, links-stay}
use Rattle.mud_world.specs.inner.CanGo.{CanKey}
use Rattle.mud_world.proofs.Keying.{found, sound-keyed}
use Rattle.mud_world.proofs.world.World.drop_key.Goals as goal

pub invariant_of-self : goal.invariant_of-self
invariant_of-self c =
    let a = c.self.inside in
    let n = c.args.object in
    let can = subst (λ (w : State). CanKey w n None) (sym c.self.view_is) c.requires in
    let it = found (state_of a) n can.there in
    kept-keyed a _ c.self.invariant n None it.0 it.1 refl c.unkey.ensures.records
    (links-stay a.links) (c.unkey.ensures.askers it.0 it.1)
    (λ t. refl)
    (sound-keyed (state_of a) c.self.invariant.sound n None can)
