use Rattle.mud_chron.proofs.Fronts.{faults_are_no_fronts}
use Rattle.mud_chron.proofs.laws.no_front_with_a_fault.Goals as goal

pub returns : goal.returns
returns c = faults_are_no_fronts
