use Rattle.mud_checker.proofs.Findings.{finds-one}
use Rattle.mud_checker.proofs.laws.one_finding.Goals as goal

pub returns : goal.returns
returns c = finds-one (record {
  one_history = c.one_history.ensures;
  one_fault = c.one_fault.ensures;
  no_fault = c.no_text_with_a_fault.ensures;
  one_certificate = c.one_certificate.ensures;
  one_bad_line = c.one_bad_line.ensures;
})
