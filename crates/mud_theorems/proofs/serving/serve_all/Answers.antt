use denote.Exit.{no, unseen}
use denote.Param.{param}
use denote.Param.Send.{IsSend, Quiet-if}
use mir.Syntax.{of_param}
use Rattle.std.proofs.Common.{◌≤◌, Bool, List, Option, length, map, sym, ◌∙◌, subst}
use Rattle.std.proofs.Math.Logic.{∥∥₁_map}
use Rattle.mud_chron.specs.Entry.{Entry}
use Rattle.mud_journal.specs.Disk.{Kept, Holds}
use Rattle.mud_theorems.specs.Serving.{AreServed}
use Rattle.mud_theorems.specs.inner.Kept.{IsKeeping}
use Rattle.mud_theorems.specs.contracts.talk.Talk as Talk
use Rattle.mud_theorems.specs.contracts.talk.Line as Line
use Rattle.mud_theorems.proofs.Crossings.{shared_sync, talk_send, line_send}
use Rattle.mud_theorems.proofs.Keeping.{entries_of, left_with_told}
use Rattle.mud_theorems.proofs.Connections.{all_served, all_told, all_loadable}
use Rattle.mud_theorems.proofs.serving.serve_all.Goals as goal

pub play_all-requires-sync-H : goal.play_all-requires-sync-H
play_all-requires-sync-H g c κs within =
    let b = c.type_bounds in
    record {
      shared = (shared_sync (param 0 g.row.J) (param 2 g.row.D) (param 3 g.row.B) g.J.HallName g.D.Appends g.B.Room
          b.send-J b.sync-J b.send-D b.send-B b.sync-B).shared;
    }

pub play_all-requires-send-P : goal.play_all-requires-send-P
play_all-requires-send-P g c κs within =
    let b = c.type_bounds in
    let R = Talk.the_row (param 0 g.row.J) (param 1 g.row.P) (param 3 g.row.B) g.J.HallName g.P.Peer g.B.Room in
    let sent : IsSend R = talk_send (param 0 g.row.J) (param 1 g.row.P) (param 3 g.row.B) g.J.HallName g.P.Peer
    g.B.Room b.send-J b.send-P b.send-B in
    record {
      owned = sent.owned;
      leaving = λ k. Quiet-if (k (of_param 1)) (R.exit no) unseen (sent.leaving no) (λ x w. tt);
    }

pub play_all-requires-send-C : goal.play_all-requires-send-C
play_all-requires-send-C g c κs within =
    let b = c.type_bounds in
    let R = Line.the_row (param 0 g.row.J) (param 1 g.row.P) (param 3 g.row.B) g.J.HallName g.P.Peer g.B.Room in
    let sent : IsSend R = line_send (param 0 g.row.J) (param 1 g.row.P) (param 3 g.row.B) g.J.HallName g.P.Peer
    g.B.Room b.send-J b.send-P b.send-B in
    record {
      owned = sent.owned;
      leaving = λ k. Quiet-if (k (of_param 2)) (R.exit no) unseen (sent.leaving no) (λ x w. tt);
    }

pub returns-clause-peers : goal.returns-clause-peers
returns-clause-peers g c = c.in_ok-desks.ensures.names ∙ c.in_ok-lines.ensures ∙ c.in_ok-talks.ensures.names

pub returns-clause-run : goal.returns-clause-run
returns-clause-run g c =
    let capacity = length g.J.HallName.cells in
    let loaded = g.J.HallName.loaded in
    let history = c.in_ok-history.history in
    let desks = c.in_ok-desks.desks.items in
    let peers = c.in_ok-desks.peers.items in
    let end = c.in_ok-history.ensures in
    ∥∥₁_map c.in_ok-desks.ensures.served (λ z.
    subst (λ (b : Bool). AreServed capacity loaded history b (map g.P.Peer.traffic peers))
    (sym c.into_journal.ensures.failed)
    (all_served g.P.Peer.traffic c.one_run.ensures capacity loaded history c.into_inner-keeper.result.count
    c.in_ok-desks.is_any_cut c.settle.new.keeper.has_failed desks peers end.settled end.failed z))

pub returns-clause-whole : goal.returns-clause-whole
returns-clause-whole g c going =
    let j = c.into_journal.ensures in
    let keeper = c.settle.new.keeper in
    subst (λ (k : Option Kept). Holds k c.in_ok-history.history) (sym j.kept)
    (subst (λ (es : List Entry). Holds keeper.kept es) c.in_ok-history.ensures.same
    (j.keeping.whole (sym j.failed ∙ going)).0)

pub returns-clause-crash : goal.returns-clause-crash
returns-clause-crash g c bytes since =
    let capacity = length g.J.HallName.cells in
    let loaded = g.J.HallName.loaded in
    let history = c.in_ok-history.history in
    let desks = c.in_ok-desks.desks.items in
    let peers = c.in_ok-desks.peers.items in
    let count = c.into_inner-keeper.result.count in
    let is_cut = c.in_ok-desks.is_any_cut in
    let end = c.in_ok-history.ensures in
    let disk = c.into_journal.result.disk in
    let keeper = c.settle.new.keeper in
    let more : count ≤ keeper.count = subst (λ k. k.count ≤ keeper.count) c.in_ok-desks.ensures.same end.more in
    let keeping : IsKeeping history (g.D.Appends.kept disk) keeper.count keeper.has_failed =
    subst (λ (k : Option Kept). IsKeeping history k keeper.count keeper.has_failed) (sym c.into_journal.ensures.kept)
    (subst (λ (es : List Entry). IsKeeping es keeper.kept keeper.count keeper.has_failed) end.same
    c.into_journal.ensures.keeping) in
    left_with_told g.D.Appends.tears (g.D.Appends.kept disk) history keeper.count keeper.has_failed
    (map g.P.Peer.traffic peers) bytes keeping (c.into_journal.ensures.left bytes since)
    (∥∥₁_map c.in_ok-desks.ensures.served (λ z. (
      entries_of capacity history
          (all_loadable g.P.Peer.traffic c.one_run.ensures capacity loaded history count is_cut desks peers end.settled
          c.requires.loadable z) end.limit,
      all_told g.P.Peer.traffic capacity loaded count keeper.count is_cut desks peers more z,
    )))
