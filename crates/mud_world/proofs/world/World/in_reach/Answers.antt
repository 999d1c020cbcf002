use Rattle.std.proofs.Common.{◌∙◌, sym}
use Rattle.mud_world.proofs.Reaching.{in_reach-InReach}
use Rattle.mud_world.proofs.world.World.in_reach.Goals as goal

pub returns-clause-reaches : goal.returns-clause-reaches
returns-clause-reaches c =
    let same = in_reach-InReach c.args.self.now c.know_sound.ensures c.args.actor c.args.object in
    (λ is. same.0 (sym c.arrives.ensures ∙ is), λ reach. c.arrives.ensures ∙ same.1 reach)
