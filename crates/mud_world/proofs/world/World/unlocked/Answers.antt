use Rattle.std.proofs.Common.{ap, ◌∙◌}
use Rattle.mud_world.specs.State.{unlocked_in}
use Rattle.mud_world.proofs.world.World.unlocked.Goals as goal

pub returns : goal.returns
returns c = λ who is.
    c.is_unlocked_in.ensures ∙ ap (λ held. unlocked_in c.args.self.now 4 held c.args.object) (λ i a. is a i)
