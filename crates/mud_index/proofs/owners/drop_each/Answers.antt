use Rattle.std.proofs.Common.{◌≡◌, ◌∙◌, ◌≤◌, ◌+◌, ◌∷◌, ℕ, suc, List, None, sym, ap, subst, drop, drop-cons, arith}
use Rattle.std.specs.Prelude.{bytes_eq}
use Rattle.std.specs.Map.{lookup, KeepsOthers}
use Rattle.indexmap.specs.IndexMap.{spare}
use Rattle.mud_index.specs.inner.Texts.{items_of}
use Rattle.mud_index.specs.inner.Views.{seen_of}
use Rattle.mud_index.proofs.Texts.{Text, same, AreLeft, left-step, changed_owner}
use Rattle.mud_index.proofs.owners.drop_each.Goals as goal

pub loop-text-preserved : goal.loop-text-preserved
loop-text-preserved c =
    let all = c.args.texts.now in
    let i = c.loop-text.text-index in
    let x = c.text-item.result in
    let up : suc i ≡ i + 1 = omega arith in
    let left : drop i all ≡ x ∷ drop (i + 1) all = drop-cons all i x c.loop-text-test.true
    ∙ ap (λ v. v ∷ drop (suc i) all) (sym c.text-item.is) ∙ ap (λ n. x ∷ drop n all) up in
    let room : spare c.loop-text.owners ≤ spare c.swap_remove.new.self = c.swap_remove.ensures.room.0 in
    let same_item = c.as_slice.ensures.value in
    let at : lookup (λ (k : Text). bytes_eq x.items k.items) c.swap_remove.new.self.entries ≡ None =
    subst (λ (v : List ℕ). lookup (λ (k : Text). bytes_eq v k.items) c.swap_remove.new.self.entries ≡ None)
    same_item c.swap_remove.ensures.updates.1 in
    let keeps : KeepsOthers same
    (λ k. bytes_eq x.items k.items) c.loop-text.owners.entries c.swap_remove.new.self.entries =
    subst (λ (v : List ℕ). KeepsOthers same
    (λ k. bytes_eq v k.items) c.loop-text.owners.entries c.swap_remove.new.self.entries) same_item
    c.swap_remove.ensures.updates.3 in
    record {
      whole = left-step x.items (items_of (drop (i + 1) all)) (items_of all) None (seen_of c.args.owners.now.entries)
          (seen_of c.loop-text.owners.entries) (seen_of c.swap_remove.new.self.entries)
          (subst (λ (l : List Text). AreLeft (items_of l) (items_of all) None (seen_of c.args.owners.now.entries)
          (seen_of c.loop-text.owners.entries)) left c.loop-text.invariant.whole)
          (changed_owner c.loop-text.owners.entries c.swap_remove.new.self.entries x.items None at keeps);
      room = omega arith;
    }
