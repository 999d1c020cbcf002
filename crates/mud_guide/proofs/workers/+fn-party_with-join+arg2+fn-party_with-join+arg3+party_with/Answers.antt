use Rattle.std.proofs.Common.{ℕ, List, ◌++◌, sym, subst, rules}
use Rattle.mud_guide.specs.inner.Travellers.{AreTravellers}
use Rattle.mud_guide.proofs.Parts.{travellers-beside}
use Rattle.mud_guide.proofs.workers.+fn-party_with-join+arg2+fn-party_with-join+arg3+party_with.Goals as goal

pub returns : goal.returns
returns g t c =
    let w = c.args.world.now in
    let front = c.split_at.result.0.now in
    let back = c.split_at.result.1.now in
    let ss = c.in_ok-travellers.travellers.items in
    let ts = c.in_ok-others.others.items in
    let one : AreTravellers w front ss = search rules in
    let other : AreTravellers w back ts = search rules in
    let P : List ℕ → Type 0 = λ ps. AreTravellers w ps c.append.new.self.items in
    subst P (sym c.split_at.ensures.by_index.0)
    (subst (AreTravellers w (front ++ back)) (sym c.in_ok-append.ensures.items)
    (travellers-beside w front back ss ts one other))
