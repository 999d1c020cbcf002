-- One more piece leaves a shorter rest. At the end everything is read, and a piece that fails makes the whole fail.
use Rattle.std.proofs.Common.{◌≡◌, ◌<◌, length, None, sym, arith}
use Rattle.std.proofs.lemmas.Grind.{common_steps}
use Rattle.mud_cert.specs.inner.Lines.{exit_text}
use Rattle.mud_cert.specs.Certificate.{IsNumber}
use Rattle.mud_cert.specs.inner.Reader.{exit_at}
use Rattle.mud_cert.proofs.Pieces.{under-start, shorter, under-more, under-fails, under-done}
use Rattle.mud_cert.proofs.Entries.{exit-reader}
use Rattle.mud_cert.proofs.lines.exits_of.Goals as goal

pub loop-rest-init : goal.loop-rest-init
loop-rest-init c = rw c.new-exits.ensures.items (under-start exit_at c.args.bytes.now)

pub loop-rest-preserved : goal.loop-rest-preserved
loop-rest-preserved c = rw c.in_ok-push.ensures.items
    (under-more exit_at exit_text IsNumber exit-reader _ c.loop-rest.rest.now _ c.in-Some.exit c.in-Some.behind.now
    (sym c.in-Some.ensures) c.loop-rest.invariant)

pub loop-rest-smaller : goal.loop-rest-smaller
loop-rest-smaller c = shorter exit_at exit_text IsNumber exit-reader c.loop-rest.rest.now c.in-Some.exit
    c.in-Some.behind.now (sym c.in-Some.ensures)

pub returns-in_default : goal.returns-in_default
returns-in_default c =
    let full : 0 < length c.loop-rest.rest.now = grind (arith, common_steps) in
    let none : exit_at c.loop-rest.rest.now ≡ None = grind (arith, common_steps) in
    sym (under-fails exit_at c.loop-rest.exits.items c.loop-rest.rest.now _ none full c.loop-rest.invariant)

pub returns : goal.returns
returns c =
    let empty : length c.loop-rest.rest.now ≡ 0 = grind (arith, common_steps) in
    sym (under-done exit_at c.loop-rest.exits.items c.loop-rest.rest.now _ empty c.loop-rest.invariant)
