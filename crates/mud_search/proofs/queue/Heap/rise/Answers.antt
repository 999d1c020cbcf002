use Rattle.std.proofs.Common.{◌≡◌, ◌-◌, ◌/◌, ◌∙◌, ap, arith, subst, sym, ℕ}
use Rattle.mud_search.specs.inner.Queues.{entry_at, waiting_labels, IsNoLater, IsOrderedBut}
use Rattle.mud_search.proofs.Heaps.{swapped_labels}
use Rattle.mud_search.proofs.Mending.{risen, between}
use Rattle.mud_search.proofs.queue.Heap.rise.Goals as goal

pub loop-at-preserved : goal.loop-at-preserved
loop-at-preserved c =
    let es = c.loop-at.self.entries.items in
    let fs = c.swap.new.self.entries.items in
    let at = c.loop-at.at in
    let above = (at - 1) / 2 in
    let waiting : c.swap.new.self.waiting ≡ c.loop-at.self.waiting = c.swap.ensures.waiting in
    let before : IsNoLater (entry_at es at) (entry_at es above) =
    between es at above c.index.result.now c.index-in-loop-at.result.now (omega arith) (omega arith) c.index.ensures
    c.index-in-loop-at.ensures c.if-not-comes_before.ensures.first in
    let order : IsOrderedBut fs c.loop-at.self.waiting above =
    risen es fs c.loop-at.self.waiting at above (omega arith) (omega arith) (omega arith) c.loop-at.invariant.order
    c.swap.ensures.swapped before in
    let labels : waiting_labels fs c.swap.new.self.places.items c.loop-at.self.waiting ≡ waiting_labels es
    c.loop-at.self.places.items c.loop-at.self.waiting =
    swapped_labels es fs c.loop-at.self.places.items c.swap.new.self.places.items c.loop-at.self.waiting at above
    c.loop-at.invariant.matched c.swap.ensures.matched c.swap.ensures.swapped c.loop-at.invariant.fits
    (omega arith) (omega arith) in
    let P : ℕ → Type 0 = λ w. IsOrderedBut fs w above in
    record {
      matched = c.swap.ensures.matched;
      fits = omega (arith, c.swap.ensures.swapped.whole);
      within = omega arith;
      order = subst P (sym waiting) order;
      labels = ap (waiting_labels fs c.swap.new.self.places.items) waiting ∙ labels ∙ c.loop-at.invariant.labels;
    }
