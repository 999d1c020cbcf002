use Rattle.std.proofs.Common.{◌<◌, ◌≤◌, ◌+◌, ◌-◌, length, sym, subst, arith, refl}
use Rattle.mud_chron.specs.Faults.{Begins}
use Rattle.mud_chron.specs.inner.Lines.{IsLine}
use Rattle.mud_world.specs.declared.limits.TheConstants.{MOST_ENTRIES}
use Rattle.mud_chron.specs.declared.line.Line.TheVariants as lines
use Rattle.mud_chron.proofs.Begun.{next_entry, too_long}
use Rattle.mud_chron.proofs.Fronts.{found_in_line, other_line, end_is_other}
use Rattle.mud_chron.proofs.front.read_front.Goals as goal

pub returns-then-len-eq-MOST_ENTRIES-clause-fault : goal.returns-then-len-eq-MOST_ENTRIES-clause-fault
returns-then-len-eq-MOST_ENTRIES-clause-fault c =
    let is : IsLine c.in-Some.format c.len.result c.in-Some-cut_line.line.now (lines.Entry c.in-Entry.entry) =
    subst (IsLine c.in-Some.format c.len.result c.in-Some-cut_line.line.now) c.in-Entry.is c.in_ok-entry.ensures in
    λ other. too_long c.in-Some.format c.loop-line.entries.items c.args.bytes.now c.loop-line.rest.now
    c.in-Some-cut_line.line.now c.in-Some-cut_line.more.now c.len.result c.in-Entry.entry
    c.loop-line.invariant c.in-Some-cut_line.ensures.1 (omega arith) is (omega arith)

pub loop-line-preserved : goal.loop-line-preserved
loop-line-preserved c =
    let is : IsLine c.in-Some.format c.len.result c.in-Some-cut_line.line.now (lines.Entry c.in-Entry.entry) =
    subst (IsLine c.in-Some.format c.len.result c.in-Some-cut_line.line.now) c.in-Entry.is c.in_ok-entry.ensures in
    let few : length c.loop-line.entries.items < MOST_ENTRIES = omega (arith, c.loop-line.invariant.allowed.few) in
    subst (λ items. Begins c.in-Some.format items c.args.bytes.now c.in-Some-cut_line.more.now)
    (sym c.in_ok-push-in-Entry.ensures.items)
    (next_entry c.in-Some.format c.loop-line.entries.items c.args.bytes.now c.loop-line.rest.now
    c.in-Some-cut_line.line.now c.in-Some-cut_line.more.now c.len.result c.in-Entry.entry
    c.loop-line.invariant c.in-Some-cut_line.ensures.1 (omega arith) is few)

pub returns-in-End-clause-fault : goal.returns-in-End-clause-fault
returns-in-End-clause-fault c =
    let is : IsLine c.in-Some.format c.len.result c.in-Some-cut_line.line.now lines.End =
    subst (IsLine c.in-Some.format c.len.result c.in-Some-cut_line.line.now) c.in-End.is c.in_ok-entry.ensures in
    let few : c.len.result ≤ MOST_ENTRIES = omega (arith, c.loop-line.invariant.allowed.few) in
    λ other. other_line c.in-Some.format c.loop-line.entries.items c.args.bytes.now c.loop-line.rest.now
    c.in-Some-cut_line.line.now c.in-Some-cut_line.more.now c.len.result (c.len-in-End.result + 2)
    c.loop-line.invariant c.in-Some-cut_line.ensures.1 c.in-Some-cut_line.ensures.0 (omega arith)
    (end_is_other c.in-Some.format c.len.result c.in-Some-cut_line.line.now few is) (omega arith)

pub returns-clause-ok : goal.returns-clause-ok
returns-clause-ok c =
    found_in_line c.in-Some.format c.args.bytes.now c.loop-line.rest.now c.loop-line.entries.items
    (length c.args.bytes.now - length c.loop-line.rest.now) c.loop-line.invariant c.in_default-cut_line.ensures refl
