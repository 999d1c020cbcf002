-- The invariant of a world in memory.
use Rattle.mud_world.specs.declared.world.World.TheInside.{Inside}
use Rattle.mud_world.specs.Sound.{IsSound}
use Rattle.mud_world.specs.inner.Maps.{state_of, lies_in, leaves, arrives, asks_it, AreOf, AreNames}

-- the layout of a world in memory. A reader need not look into this: contracts speak of a world only by other
-- definitions
pub record IsKept (a : Inside) : Type 0 where
  pub sound : IsSound (state_of a)
  pub contents : AreOf lies_in a.links.contents (state_of a)
  pub leaving : AreOf leaves a.links.leaving (state_of a)
  pub arriving : AreOf arrives a.links.arriving (state_of a)
  pub askers : AreOf asks_it a.askers (state_of a)
  pub names : AreNames a.owners (state_of a)
