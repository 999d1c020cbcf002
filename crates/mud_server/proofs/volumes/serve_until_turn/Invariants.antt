use Rattle.std.proofs.Common.{◌≡◌}
use Rattle.mud_server.specs.inner.Between.{IsReady}
use Rattle.mud_server.proofs.Chained.{HasLasted}
use Rattle.mud_server.proofs.volumes.serve_until_turn.Given as goal

-- the same volume goes on, its file keeps it, and no volume was finished
abbrev pub invariant-loop : goal.invariant-loop
invariant-loop g l = record {
  lasted : HasLasted l.fn.terms.limits l.fn.going.beginning.hall.loaded l.going.beginning.hall.loaded;
  ready : IsReady (g.D.Appends.kept l.going.beginning.journal.disk) l.going.beginning.journal.count
      l.going.beginning.journal.has_failed l.going.beginning.hall.loaded;
  still : g.S.Shelf.finished l.volumes.shelf ≡ g.S.Shelf.finished l.fn.volumes.shelf;
}
