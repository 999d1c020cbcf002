use Rattle.std.proofs.Common.{◌∙◌, List, ℕ, sym, ap, subst}
use Rattle.std.specs.Prelude.{nat_eq}
use Rattle.std.specs.List.{list_any}
use Rattle.std.specs.List.Sorted.{IsNonDecreasing}
use Rattle.mud_index.proofs.Places.{any-found}
use Rattle.mud_index.proofs.numbers.Rising.has.Goals as goal

pub returns : goal.returns
returns c =
    let n = c.args.number in
    let items = c.deref.ensures.value in
    c.is_ok.ensures.value
    ∙ any-found n c.deref.result.now c.binary_search.result c.binary_search.ensures.position
    (subst (λ (v : List ℕ). IsNonDecreasing v) (sym items) c.self.invariant)
    ∙ ap (list_any (nat_eq n)) (items ∙ c.self.view_is)
