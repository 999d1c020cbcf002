use Rattle.std.proofs.Common.{List, ◌++◌, sym, ap, subst, rules}
use Rattle.mud_roads.specs.Passable.{Knowledge}
use Rattle.mud_search.specs.Tables.{table}
use Rattle.mud_search.specs.inner.Travellers.{AreFound}
use Rattle.mud_search.proofs.Parts.{found-beside}
use Rattle.mud_search.proofs.shared.+fn-labels_apart-join+arg2+fn-labels_apart-join+arg3+labels_apart.Goals as goal

pub returns : goal.returns
returns g t c =
    let w = c.args.world.now in
    let front = c.split_at.result.0.now in
    let back = c.split_at.result.1.now in
    let one : AreFound w front c.in_ok-labels.labels = search rules in
    let other : AreFound w back c.in_ok-others.field-0 = search rules in
    let P : List Knowledge → Type 0 = λ ts. AreFound w ts c.append.new.self in
    subst P (sym c.split_at.ensures.by_index.0)
    (subst (AreFound w (front ++ back)) (sym (ap table c.in_ok-append.ensures.ok))
    (found-beside w front back c.in_ok-labels.labels c.in_ok-others.field-0 one other))
