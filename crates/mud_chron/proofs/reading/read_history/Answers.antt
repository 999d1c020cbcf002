use Rattle.std.proofs.Common.{◌<◌, ◌+◌, length, sym, subst, arith, inl}
use Rattle.mud_chron.specs.Faults.{Begins}
use Rattle.mud_chron.specs.inner.Lines.{IsLine}
use Rattle.mud_world.specs.declared.limits.TheConstants.{MOST_ENTRIES}
use Rattle.mud_chron.specs.declared.line.Line.TheVariants as lines
use Rattle.mud_chron.proofs.Begun.{next_entry, too_long}
use Rattle.mud_chron.proofs.Fronts.{bad_line}
use Rattle.mud_chron.proofs.reading.read_history.Goals as goal

pub returns-then-len-eq-MOST_ENTRIES-clause-err : goal.returns-then-len-eq-MOST_ENTRIES-clause-err
returns-then-len-eq-MOST_ENTRIES-clause-err c =
    let is : IsLine c.in-Some.found.0 c.len.result c.in-Some-cut_line.line.now (lines.Entry c.in-Entry.entry) =
    subst (IsLine c.in-Some.found.0 c.len.result c.in-Some-cut_line.line.now) c.in-Entry.is c.in_ok-entry.ensures in
    λ other. too_long c.in-Some.found.0 c.loop-line.entries.items c.args.bytes.now c.loop-line.rest.now
    c.in-Some-cut_line.line.now c.in-Some-cut_line.more.now c.len.result c.in-Entry.entry
    c.loop-line.invariant c.in-Some-cut_line.ensures.1 (omega arith) is (omega arith)

pub returns-in-Bad-clause-err : goal.returns-in-Bad-clause-err
returns-in-Bad-clause-err c =
    let is : IsLine c.in-Some.found.0 c.len.result c.in-Some-cut_line.line.now lines.Bad =
    subst (IsLine c.in-Some.found.0 c.len.result c.in-Some-cut_line.line.now) c.in-Bad.is c.in_ok-entry.ensures in
    λ other. inl (bad_line c.in-Some.found.0 c.loop-line.entries.items c.args.bytes.now c.loop-line.rest.now
    c.in-Some-cut_line.line.now c.in-Some-cut_line.more.now c.len.result (c.len-in-Bad.result + 2)
    c.loop-line.invariant c.in-Some-cut_line.ensures.1 c.in-Some-cut_line.ensures.0 (omega arith) is (omega arith))

pub loop-line-preserved : goal.loop-line-preserved
loop-line-preserved c =
    let is : IsLine c.in-Some.found.0 c.len.result c.in-Some-cut_line.line.now (lines.Entry c.in-Entry.entry) =
    subst (IsLine c.in-Some.found.0 c.len.result c.in-Some-cut_line.line.now) c.in-Entry.is c.in_ok-entry.ensures in
    let few : length c.loop-line.entries.items < MOST_ENTRIES = omega (arith, c.loop-line.invariant.allowed.few) in
    subst (λ items. Begins c.in-Some.found.0 items c.args.bytes.now c.in-Some-cut_line.more.now)
    (sym c.in_ok-push-in-Entry.ensures.items)
    (next_entry c.in-Some.found.0 c.loop-line.entries.items c.args.bytes.now c.loop-line.rest.now
    c.in-Some-cut_line.line.now c.in-Some-cut_line.more.now c.len.result c.in-Entry.entry
    c.loop-line.invariant c.in-Some-cut_line.ensures.1 (omega arith) is few)
