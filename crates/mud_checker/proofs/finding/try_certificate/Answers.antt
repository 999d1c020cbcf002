use Rattle.std.proofs.Common.{◌∙◌, rules, ap, subst, arith}
use Rattle.std.proofs.lemmas.Grind.{common_steps}
use Rattle.mud_world.specs.State.{State}
use Rattle.mud_cert.specs.Doubts.{IsFirstDoubt}
use Rattle.mud_chron.specs.Replay.{world_at}
use Rattle.mud_checker.proofs.finding.try_certificate.Goals as goal

pub returns : goal.returns
returns c = (
  omega arith,
  subst (λ (w : State). IsFirstDoubt w c.args.cert.now c.in-Err.doubt)
      (c.in_ok-world.ensures ∙ ap (world_at c.args.entries.now) c.version-version.ensures)
      (c.in-Err.ensures.refuses (first_of (search rules, grind (arith, common_steps)))),
)
