use Rattle.mud_nvt.specs.inner.Machine.{start, run, run_units}
use Rattle.mud_nvt.proofs.Whole.{units-append}
use Rattle.mud_nvt.proofs.laws.permanence.Goals as goal

pub returns : goal.returns
returns c = λ bytes more. (run_units (run start bytes) more, units-append bytes more)
