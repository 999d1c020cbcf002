use Rattle.std.proofs.Common.{◌≤◌, None, drop}
use Rattle.indexmap.specs.IndexMap.{spare}
use Rattle.mud_index.specs.inner.Texts.{items_of}
use Rattle.mud_index.specs.inner.Views.{seen_of}
use Rattle.mud_index.proofs.Texts.{AreLeft}
use Rattle.mud_index.proofs.owners.drop_each.Given as goal

-- the remaining texts and those already done make up the whole list
abbrev pub invariant-loop-text : goal.invariant-loop-text
invariant-loop-text l = record {
  whole : AreLeft (items_of (drop l.text-index l.texts)) (items_of l.texts) None (seen_of l.initial.owners.entries)
      (seen_of l.owners.entries);
  room : spare l.initial.owners ≤ spare l.owners;
}
