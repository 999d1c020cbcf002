use Rattle.std.proofs.Common.{ℕ, ◌≤◌, List, arith, subst}
use Rattle.std.specs.Prelude.{All}
use Rattle.std.proofs.lemmas.List.{take_all}
use Rattle.std.proofs.lemmas.List.Elements.{All-more}
use Rattle.mud_undo.proofs.Reasons.{missing}
use Rattle.mud_undo.proofs.answering.first_missing.Goals as goal

pub loop-version-preserved : goal.loop-version-preserved
loop-version-preserved c =
    All-more (λ v. (1 ≤ v) × (v ≤ c.args.count)) c.args.versions.now c.loop-version.version-index 0
    c.loop-version-test.true c.loop-version.invariant c.if-not-has_version.ensures

pub returns-then-not-has_version : goal.returns-then-not-has_version
returns-then-not-has_version c = (
  c.if-not-has_version.ensures,
  missing c.args.versions.now c.args.count c.loop-version.version-index c.loop-version-test.true
      c.if-not-has_version.ensures,
)

pub returns : goal.returns
returns c =
    subst (λ (l : List ℕ). All (λ v. (1 ≤ v) × (v ≤ c.args.count)) l)
    (take_all c.loop-version.version-index c.args.versions.now (omega (arith, c.loop-version-test.false)))
    c.loop-version.invariant
