use Rattle.std.proofs.Common.{sym, subst, arith, ◌∙◌}
use Rattle.std.specs.Str.{IsUtf8}
use Rattle.mud_chron.proofs.Lines.{utf8_line, entry-found}
use Rattle.mud_chron.proofs.line.candidate.Goals as goal

pub returns-in-Ok : goal.returns-in-Ok
returns-in-Ok c = λ version e fits is same.
    entry-found c.guess.result c.in-Ok.text.now version e c.guess.ensures (omega arith) is
    (c.in-Ok.ensures.cases.0 ∙ same)

pub returns-in-Err : goal.returns-in-Err
returns-in-Err c =
    λ version e fits is same.
    absurd (c.in-Err.ensures.cases.0 (subst IsUtf8 (sym same) (utf8_line version e (omega arith) is)))
