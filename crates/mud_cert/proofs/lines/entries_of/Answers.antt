-- One more piece leaves a shorter rest. At the end everything is read, and a piece that fails makes the whole fail.
use Rattle.std.proofs.Common.{◌≡◌, ◌<◌, length, None, sym, arith}
use Rattle.std.proofs.lemmas.Grind.{common_steps}
use Rattle.mud_cert.specs.Text.{entry_text}
use Rattle.mud_cert.specs.inner.Reader.{entry_at}
use Rattle.mud_cert.proofs.Pieces.{under-start, shorter, under-more, under-fails, under-done}
use Rattle.mud_cert.proofs.Entries.{entry-reader, IsRead}
use Rattle.mud_cert.proofs.lines.entries_of.Goals as goal

pub loop-rest-init : goal.loop-rest-init
loop-rest-init c = rw c.new-entries.ensures.items (under-start (entry_at c.args.form) c.args.bytes.now)

pub loop-rest-preserved : goal.loop-rest-preserved
loop-rest-preserved c = rw c.in_ok-push.ensures.items
    (under-more (entry_at c.args.form) (entry_text c.args.form) (IsRead c.args.form) (entry-reader c.args.form) _
    c.loop-rest.rest.now _ c.in-Some.entry c.in-Some.behind.now (sym c.in-Some.ensures) c.loop-rest.invariant)

pub loop-rest-smaller : goal.loop-rest-smaller
loop-rest-smaller c = shorter (entry_at c.args.form) (entry_text c.args.form) (IsRead c.args.form)
    (entry-reader c.args.form) c.loop-rest.rest.now c.in-Some.entry c.in-Some.behind.now (sym c.in-Some.ensures)

pub returns-in_default : goal.returns-in_default
returns-in_default c =
    let full : 0 < length c.loop-rest.rest.now = grind (arith, common_steps) in
    let none : (entry_at c.args.form) c.loop-rest.rest.now ≡ None = grind (arith, common_steps) in
    sym (under-fails (entry_at c.args.form) c.loop-rest.entries.items c.loop-rest.rest.now _
    none full c.loop-rest.invariant)

pub returns : goal.returns
returns c =
    let empty : length c.loop-rest.rest.now ≡ 0 = grind (arith, common_steps) in
    sym (under-done (entry_at c.args.form) c.loop-rest.entries.items c.loop-rest.rest.now _ empty c.loop-rest.invariant)
