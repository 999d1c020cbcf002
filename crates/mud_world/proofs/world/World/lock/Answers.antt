use Rattle.std.proofs.Common.{ℕ, Some, subst, sym}
use Rattle.mud_key.specs.Tree.{Tree}
use Rattle.mud_world.specs.inner.CanGo.{CanKey}
use Rattle.mud_world.proofs.Keying.{CanKey-lock}
use Rattle.mud_world.proofs.world.World.lock.Goals as goal

pub set_key-requires : goal.set_key-requires
set_key-requires c =
    let w = c.args.self.now in
    subst (λ (key : Tree ℕ). CanKey w c.args.object (Some key)) (sym c.in_ok-key.ensures)
    (CanKey-lock w c.know_sound.ensures c.args.actor c.args.object c.args.key.now c.requires)
