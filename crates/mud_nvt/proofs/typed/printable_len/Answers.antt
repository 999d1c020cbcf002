use Rattle.std.proofs.lemmas.List.{take_rest}
use Rattle.mud_nvt.proofs.Runs.{more_printable}
use Rattle.mud_nvt.proofs.typed.printable_len.Goals as goal

pub returns-clause-printable : goal.returns-clause-printable
returns-clause-printable c =
    more_printable c.args.bytes.now c.printable_runs-runs.result c.printable_front.result
    c.printable_runs-runs.ensures.printable
    (rw (take_rest c.args.bytes.now c.printable_runs-runs.result) at c.printable_front.ensures.printable)
