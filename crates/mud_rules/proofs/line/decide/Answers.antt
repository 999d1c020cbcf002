use Rattle.std.proofs.Common.{◌≡◌, ℕ, Option, Result, sym, subst, rules}
use Rattle.std.specs.Prelude.{IfOk}
use Rattle.std.specs.declared.alloc.AllocError.{AllocError}
use Rattle.std.proofs.lemmas.Result.{IfOk-weaker}
use Rattle.mud_words.specs.Line.{Line, line_of}
use Rattle.mud_world.specs.State.{State}
use Rattle.mud_world.specs.Sound.{IsSound}
use Rattle.mud_rules.specs.declared.verdict.Verdict.{Verdict}
use Rattle.mud_rules.specs.Outcome.{IsLawful}
use Rattle.mud_rules.specs.Table.{decision}
use Rattle.mud_rules.proofs.Decided.{are_lawful}
use Rattle.mud_rules.proofs.line.decide.Goals as goal

lawful : (w : State) → IsSound w → (player : Option ℕ) (line : Line) (r : Result Verdict AllocError)
    → IfOk r (λ v. v ≡ decision w player line) → IfOk r (IsLawful w player)
lawful w sound player line r decided =
    IfOk-weaker r _ (IsLawful w player)
    (λ v is. subst (IsLawful w player) (sym is) (are_lawful w sound player line)) decided

pub returns-in_default-clause-decision : goal.returns-in_default-clause-decision
unfolding decision
returns-in_default-clause-decision c = search rules

pub returns-in_default-clause-lawful : goal.returns-in_default-clause-lawful
returns-in_default-clause-lawful c =
    lawful c.args.world.now c.next_number-known.ensures.sound c.args.player (line_of c.args.parsed.now)
    c.guest.result (returns-in_default-clause-decision c)

pub returns-in-Some-verb-clause-decision : goal.returns-in-Some-verb-clause-decision
unfolding decision
returns-in-Some-verb-clause-decision c = search rules

pub returns-in-Some-verb-clause-lawful : goal.returns-in-Some-verb-clause-lawful
returns-in-Some-verb-clause-lawful c =
    lawful c.args.world.now c.next_number-known.ensures.sound c.args.player (line_of c.args.parsed.now)
    c.command.result (returns-in-Some-verb-clause-decision c)

pub returns-in-None-clause-decision : goal.returns-in-None-clause-decision
unfolding decision
returns-in-None-clause-decision c = search rules

pub returns-in-None-clause-lawful : goal.returns-in-None-clause-lawful
returns-in-None-clause-lawful c =
    lawful c.args.world.now c.next_number-known.ensures.sound c.args.player (line_of c.args.parsed.now)
    c.other_line.result (returns-in-None-clause-decision c)
