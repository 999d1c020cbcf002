use Rattle.std.proofs.Common.{ap, ◌∙◌}
use Rattle.mud_world.specs.declared.limits.TheConstants.{KEY_LEVELS}
use Rattle.mud_world.specs.State.{unlocked_in}
use Rattle.mud_world.proofs.Carrying.{if_ok-weaker}
use Rattle.mud_world.proofs.world.World.judge.Goals as goal

pub returns-clause-answers : goal.returns-clause-answers
returns-clause-answers c =
    if_ok-weaker c.judge_levels.result _ _
    (λ answers known who o is. known o ∙ ap (λ held. unlocked_in c.args.self.now KEY_LEVELS held o) (λ i a. is a i))
    c.judge_levels.ensures.answers
