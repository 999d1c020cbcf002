use Rattle.std.proofs.Common.{◌∙◌, List, ℕ, sym, ap, subst}
use Rattle.std.specs.List.{remove}
use Rattle.std.specs.List.Sorted.{IsNonDecreasing}
use Rattle.mud_index.specs.Rising.{without}
use Rattle.mud_index.proofs.Places.{found-there, found-other, rising-remove, without-remove, without-other}
use Rattle.mud_index.proofs.numbers.remove_number.Goals as goal

pub loop-place-preserved : goal.loop-place-preserved
loop-place-preserved c =
    let n = c.args.number in
    let xs = c.deref.result.now in
    let i = c.in-Ok.place in
    let items = c.deref.ensures.value in
    let before = subst (λ (v : List ℕ). IsNonDecreasing v) (sym items) c.loop-place.invariant.rising in
    let there = found-there n xs i c.in-Ok.ensures.position before in
    let left = ap (λ v. remove v i) items ∙ sym c.remove.ensures.items in
    record {
      rising = subst (λ (v : List ℕ). IsNonDecreasing v) left (rising-remove xs i there.0 before);
      same = sym (ap (without n) left) ∙ without-remove n xs i there.0 there.1 ∙ ap (without n) items
          ∙ c.loop-place.invariant.same;
    }

pub returns-clause-items : goal.returns-clause-items
returns-clause-items c =
    let n = c.args.number in
    let xs = c.deref.result.now in
    let items = c.deref.ensures.value in
    let before = subst (λ (v : List ℕ). IsNonDecreasing v) (sym items) c.loop-place.invariant.rising in
    sym items ∙ sym (without-other n xs (found-other n xs _ c.in_default.ensures.position before))
    ∙ ap (without n) items ∙ c.loop-place.invariant.same
