use Rattle.std.proofs.Common.{ℕ, List, sym, subst, arith}
use Rattle.std.specs.List.{enumerate_from}
use Rattle.std.specs.Prelude.{nat_eq}
use Rattle.mud_index.specs.Rising.{without}
use Rattle.mud_index.specs.Lists.{AreChanged}
use Rattle.mud_index.proofs.Seen.{changed_seen, unchanged_past}
use Rattle.mud_index.proofs.lists.Lists.remove.Goals as goal

pub returns-then-at-len : goal.returns-then-at-len
returns-then-at-len c =
    let f = without c.args.number in
    let old = c.self.inside.lists.items in
    let new = c.remove_at.new.lists.items in
    subst (λ (v : List (ℕ × List ℕ)). AreChanged (λ n. nat_eq n c.args.holder) f v (enumerate_from 0 new))
    c.self.view_is
    (subst
    (λ (v : List (List ℕ)). AreChanged (λ n. nat_eq n c.args.holder) f (enumerate_from 0 old) (enumerate_from 0 v))
    (sym c.remove_at.ensures)
    (changed_seen old c.args.holder f (omega arith)))

pub returns-else-at-len : goal.returns-else-at-len
returns-else-at-len c =
    subst (λ (v : List (ℕ × List ℕ)). AreChanged (λ n. nat_eq n c.args.holder) (without c.args.number) v v)
    c.self.view_is
    (unchanged_past c.self.inside.lists.items c.args.holder c.args.number (omega arith))
