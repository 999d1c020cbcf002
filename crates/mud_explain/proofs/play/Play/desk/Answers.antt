use Rattle.std.proofs.Common.{inl, inr, refl}
use Rattle.std.proofs.lemmas.Result.{on_ok_weaker}
use Rattle.mud_explain.specs.inner.StepLines.{fault_line}
use Rattle.mud_explain.proofs.play.Play.desk.Goals as goal

pub returns-in-Err-clause-told : goal.returns-in-Err-clause-told
returns-in-Err-clause-told g c =
    on_ok_weaker c.push_fault.result (λ said. (
      fault_line c.in-Err.fault,
      said,
      inl (inr (c.in-Err.fault, c.reserve.ensures.items, refl)),
    ))
    c.push_fault.ensures
