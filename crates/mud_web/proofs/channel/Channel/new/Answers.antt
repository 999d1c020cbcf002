use Rattle.std.proofs.Common.{refl, ◌∙◌}
use Rattle.mud_web.proofs.Runs.{fresh}
use Rattle.mud_web.proofs.channel.Channel.new.Goals as goal

pub returns-clause-stands : goal.returns-clause-stands
returns-clause-stands c = fresh _ (c.in_ok-new.ensures.ok ∙ c.new.ensures) c.new-3.ensures.items refl
