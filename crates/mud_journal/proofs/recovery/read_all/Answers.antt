use Rattle.std.proofs.Common.{refl, arith}
use Rattle.mud_journal.proofs.Finding.{foreign}
use Rattle.mud_journal.proofs.recovery.read_all.Goals as goal

pub returns-in-Err-clause-err : goal.returns-in-Err-clause-err
returns-in-Err-clause-err g c = c.in-Err.ensures.err (g.R.Read.remaining c.args.reader.now)

pub returns-in-Err-read_rest-clause-err : goal.returns-in-Err-read_rest-clause-err
returns-in-Err-read_rest-clause-err g c = c.in-Err-read_rest.ensures.err (g.R.Read.remaining c.args.reader.now)

pub returns-then-is_foreign-clause-err : goal.returns-then-is_foreign-clause-err
returns-then-is_foreign-clause-err g c =
    let none = c.if-is_foreign.ensures refl in
    foreign (g.R.Read.remaining c.args.reader.now) (g.R.Read.remaining c.read_first.new.reader)
    c.read_first.new.first c.in-Ok.count (omega (arith, c.read_first.auto.first)) c.if-count-eq-FIRST_LINE_BYTES.true
    none.0 none.1 c.in-Ok.ensures.bytes
