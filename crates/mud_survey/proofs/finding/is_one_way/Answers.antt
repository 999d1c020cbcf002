use Rattle.std.proofs.Common.{sym, ap, ◌∙◌}
use Rattle.std.specs.Prelude.{not}
use Rattle.mud_survey.proofs.Testing.{one-way-at}
use Rattle.mud_survey.proofs.finding.is_one_way.Goals as goal

pub returns-in-Some : goal.returns-in-Some
returns-in-Some c =
    ap not c.leads_back.ensures
    ∙ sym (one-way-at c.args.world.now c.args.exit c.in-Some.passage (sym c.in-Some.ensures))
