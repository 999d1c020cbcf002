use Rattle.std.proofs.Common.{◌∙◌, ap, arith, refl, length, length-set}
use Rattle.std.proofs.lemmas.List.{get_or_read}
use Rattle.mud_search.proofs.Holes.{read_and_written, room_below, sunk_on}
use Rattle.mud_search.proofs.queue.Heap.sink.Goals as goal

pub loop-below-init : goal.loop-below-init
loop-below-init c =
    let es = c.args.self.now.entries.items in
    let ps = c.args.self.now.places.items in
    let same = read_and_written es ps c.args.from c.index-entry.result.now c.requires.matched (omega arith)
    c.index-entry.ensures in
    record {
      matched = rw (same.0, same.1) c.requires.matched;
      fits = c.requires.fits;
      within = c.requires.within;
      order = rw same.0 c.requires.order;
      labels = rw (same.0, same.1) refl;
      same = refl;
    }

pub put-requires-clause-room : goal.put-requires-clause-room
put-requires-clause-room c =
    let l = c.loop-below in
    let found = c.in-Some.ensures.some in
    let read = get_or_read l.self.entries.items c.in-Some.below c.index-next.result.now (omega (arith, found.0.within))
    c.index-next.ensures _ in
    room_below l.self.entries.items l.self.places.items l.self.waiting l.at c.in-Some.below
    c.index-entry.result.now c.index-next.result.now l.invariant.matched l.invariant.fits found.0 read

pub loop-below-preserved : goal.loop-below-preserved
loop-below-preserved c =
    let l = c.loop-below in
    let found = c.in-Some.ensures.some in
    let read = get_or_read l.self.entries.items c.in-Some.below c.index-next.result.now (omega (arith, found.0.within))
    c.index-next.ensures _ in
    let step = sunk_on l.self.entries.items l.self.places.items l.self.waiting l.at c.in-Some.below
    c.index-entry.result.now c.index-next.result.now l.invariant.matched l.invariant.fits l.invariant.within
    found.0 found.1 read l.invariant.order in
    let whole = ap length c.put.ensures.entries ∙ length-set l.self.entries.items l.at c.index-next.result.now in
    record {
      matched = rw (c.put.ensures.entries, c.put.ensures.places) step.0;
      fits = omega (arith, whole);
      within = omega (arith, found.0.within);
      order = rw (c.put.ensures.entries, c.put.ensures.waiting) step.1;
      labels = rw (c.put.ensures.entries, c.put.ensures.places, c.put.ensures.waiting) (step.2 ∙ l.invariant.labels);
      same = omega arith;
    }
