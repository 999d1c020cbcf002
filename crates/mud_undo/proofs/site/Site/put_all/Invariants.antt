use Rattle.std.proofs.Common.{◌≡◌, ◌++◌, take}
use Rattle.mud_undo.specs.inner.Building.{IsBuilt}
use Rattle.mud_undo.proofs.site.Site.put_all.Given as goal

-- the entries so far are added
abbrev pub invariant-loop-entry : goal.invariant-loop-entry
invariant-loop-entry l = record {
  is : l.self.entries.items ≡ l.fn.self.entries.items ++ take l.entry-index l.part;
  built : IsBuilt l.self.entries.items l.self.world;
}
