use Rattle.std.specs.Option.{option_map}
use Rattle.mud_shelf.specs.Volume.{durable}
use Rattle.mud_server.specs.inner.Between.{IsReady}
use Rattle.mud_server.proofs.Chained.{HasFollowed}
use Rattle.mud_server.proofs.volumes.serve_later.Given as goal

-- the next volume follows from the earlier ones, which were finished, and its file keeps it
abbrev pub invariant-loop : goal.invariant-loop
invariant-loop g l = record {
  followed : HasFollowed l.fn.terms.limits l.fn.going.beginning.hall.loaded l.going.beginning.hall.loaded
      (g.S.Shelf.finished l.fn.volumes.shelf) (g.S.Shelf.finished l.volumes.shelf);
  ready : IsReady (option_map durable (g.S.Draft.Draft.stage l.going.beginning.journal.disk.draft))
      l.going.beginning.journal.count l.going.beginning.journal.has_failed l.going.beginning.hall.loaded;
}
