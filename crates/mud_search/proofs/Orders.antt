-- The order of entries.
use Rattle.std.proofs.Common.{◌≤◌, arith}
use Rattle.mud_search.specs.declared.queue.Entry.{Entry}
use Rattle.mud_search.specs.inner.Queues.{IsNoLater}

pub no_later_itself : (a : Entry) → IsNoLater a a
no_later_itself a = (omega arith, λ e. (omega arith, λ f. omega arith))

pub no_later_trans : (a b c : Entry) → IsNoLater a b → IsNoLater b c → IsNoLater a c
no_later_trans a b c p q = (
  omega arith,
  λ e.
      let first = p.1 (omega arith) in
      let second = q.1 (omega arith) in (
        omega arith,
        λ f.
            let low : a.room ≤ b.room = first.1 (omega arith) in
            let high : b.room ≤ c.room = second.1 (omega arith) in
            omega arith,
      ),
)
