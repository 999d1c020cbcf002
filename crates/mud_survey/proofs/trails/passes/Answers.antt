use Rattle.std.proofs.Common.{sym, subst}
use Rattle.std.specs.Prelude.{IsTrue, ◌↔◌}
use Rattle.std.proofs.lemmas.Bool.{true≢false}
use Rattle.mud_survey.specs.Ways.{Passes}
use Rattle.mud_survey.proofs.Coming.{passes-by, passes-none}
use Rattle.mud_survey.proofs.trails.passes.Goals as goal

pub returns-in-Some : goal.returns-in-Some
returns-in-Some c =
    let w = c.args.world.now in
    let p = c.args.traveller.now.player in
    subst (λ b. IsTrue b ↔ Passes w p c.args.exit) (sym c.is_passed.ensures)
    (passes-by w p c.args.exit c.in-Some.passage c.args.reached.now (sym c.in-Some.ensures) c.requires.reached)

pub returns-in-None : goal.returns-in-None
returns-in-None c = (
  λ marked. absurd (true≢false (sym marked)),
  λ passed.
      absurd (passes-none c.args.world.now c.args.traveller.now.player c.args.exit (sym c.in-None.ensures) passed),
)
