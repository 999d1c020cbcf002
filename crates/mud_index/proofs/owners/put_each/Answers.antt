use Rattle.std.proofs.Common.{◌≡◌, ◌≤◌, ◌+◌, ◌∷◌, List, Some, subst, length, arith}
use Rattle.indexmap.specs.IndexMap.{spare}
use Rattle.std.specs.Vec.Iter.{into_iter_items}
use Rattle.mud_index.specs.inner.Texts.{items_of}
use Rattle.mud_index.specs.inner.Views.{seen_of}
use Rattle.mud_index.proofs.Texts.{Text, AreLeft, left-step, changed_owner}
use Rattle.mud_index.proofs.owners.put_each.Goals as goal

pub loop-text-preserved : goal.loop-text-preserved
loop-text-preserved c =
    let x = c.in-Some.text in
    let rest = into_iter_items c.next.new.self in
    let all = c.args.texts.items in
    let left : into_iter_items c.loop-text.text-iterator ≡ x ∷ rest = c.in-Some.ensures.steps.0 in
    let room : length (x ∷ rest) ≤ spare c.loop-text.owners =
    subst (λ (l : List Text). length l ≤ spare c.loop-text.owners) left c.loop-text.invariant.room in
    let less : spare c.loop-text.owners ≤ spare c.insert.new.self + 1 = c.insert.ensures.spare in
    record {
      whole = left-step x.items (items_of rest) (items_of all) (Some c.args.owner) (seen_of c.args.owners.now.entries)
          (seen_of c.loop-text.owners.entries) (seen_of c.insert.new.self.entries)
          (subst (λ (l : List Text). AreLeft (items_of l) (items_of all) (Some c.args.owner)
          (seen_of c.args.owners.now.entries) (seen_of c.loop-text.owners.entries)) left
          c.loop-text.invariant.whole)
          (changed_owner c.loop-text.owners.entries c.insert.new.self.entries x.items
          (Some c.args.owner) c.in-Ok.ensures.updates.1 c.in-Ok.ensures.updates.3);
      room = omega arith;
    }
