use Rattle.mud_chron.proofs.Telling.{faults_are_no_texts}
use Rattle.mud_chron.proofs.laws.no_text_with_a_fault.Goals as goal

pub returns : goal.returns
returns c = faults_are_no_texts
