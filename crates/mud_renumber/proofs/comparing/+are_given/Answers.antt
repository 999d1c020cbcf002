use Rattle.std.proofs.Common.{◌<◌, ℕ, refl, sym, subst}
use Rattle.mud_key.specs.Tree.{AllObjects}
use Rattle.mud_key.specs.Node.{key_of as tree_of}
use Rattle.mud_key.specs.declared.node.Node.{Node}
use Rattle.mud_renumber.specs.Numbers.{number_at}
use Rattle.mud_renumber.proofs.comparing.+are_given.Goals as goal

pub returns-else-not-are_given : goal.returns-else-not-are_given
returns-else-not-are_given t c given =
    let Given : Node ℕ → Type 0 =
    λ n. AllObjects (λ o. number_at c.args.numbers.now o < c.args.next) (tree_of n) in
    let left : Given c.in-Join.left.value = subst Given c.deref-in-Join.ensures (c.if-not-are_given.ensures refl) in
    let right : Given c.in-Join.right.value =
    subst Given c.deref-in-Join-2.ensures (c.are_given-in-Join-2.ensures given) in
    subst Given (sym c.in-Join.is) (left, right)
