use Rattle.std.proofs.Common.{◌≤◌, Some, length}
use Rattle.indexmap.specs.IndexMap.{spare}
use Rattle.std.specs.Vec.Iter.{into_iter_items}
use Rattle.mud_index.specs.inner.Texts.{items_of}
use Rattle.mud_index.specs.inner.Views.{seen_of}
use Rattle.mud_index.proofs.Texts.{AreLeft}
use Rattle.mud_index.proofs.owners.put_each.Given as goal

-- the remaining texts and those already done make up the whole list, and there is capacity for the remaining ones
abbrev pub invariant-loop-text : goal.invariant-loop-text
invariant-loop-text l = record {
  whole : AreLeft (items_of (into_iter_items l.text-iterator)) (items_of l.fn.texts.items) (Some l.owner)
      (seen_of l.initial.owners.entries) (seen_of l.owners.entries);
  room : length (into_iter_items l.text-iterator) ≤ spare l.owners;
}
