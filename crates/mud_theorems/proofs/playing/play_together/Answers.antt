use denote.Exit.{no, unseen}
use denote.Param.{param}
use denote.Param.Send.{IsSend, Quiet-if}
use mir.Syntax.{of_param}
use Rattle.std.proofs.Common.{length, map, sym, ◌∙◌, ap}
use Rattle.std.proofs.Math.Logic.{∥∥₁_map}
use Rattle.mud_hall.proofs.Crosses.{hall_sync}
use Rattle.mud_theorems.specs.contracts.played.Player as Player
use Rattle.mud_theorems.specs.contracts.played.Played as Played
use Rattle.mud_theorems.proofs.Crosses.{player_send, played_send}
use Rattle.mud_theorems.proofs.Feeding.{all_played}
use Rattle.mud_theorems.proofs.Jobs.{map-map}
use Rattle.mud_theorems.proofs.playing.play_together.Goals as goal

pub play_all-requires-sync-H : goal.play_all-requires-sync-H
play_all-requires-sync-H g c κs within =
    record {
      shared = (hall_sync (param 0 g.row.J) g.J.HallName c.type_bounds.send-J c.type_bounds.sync-J).shared;
    }

pub play_all-requires-send-P : goal.play_all-requires-send-P
play_all-requires-send-P g c κs within =
    let R = Player.the_row (param 0 g.row.J) g.J.HallName in
    let sent : IsSend R = player_send (param 0 g.row.J) g.J.HallName c.type_bounds.send-J in
    record {
      owned = sent.owned;
      leaving = λ k. Quiet-if (k (of_param 1)) (R.exit no) unseen (sent.leaving no) (λ x w. tt);
    }

pub play_all-requires-send-C : goal.play_all-requires-send-C
play_all-requires-send-C g c κs within =
    let R = Played.the_row (param 0 g.row.J) g.J.HallName in
    let sent : IsSend R = played_send (param 0 g.row.J) g.J.HallName c.type_bounds.send-J in
    record {
      owned = sent.owned;
      leaving = λ k. Quiet-if (k (of_param 2)) (R.exit no) unseen (sent.leaving no) (λ x w. tt);
    }

pub returns-in-Ok-clause-typed : goal.returns-in-Ok-clause-typed
returns-in-Ok-clause-typed g c =
    ap (map (λ t. t.typed.items)) c.in_ok-desks.ensures.transcripts
    ∙ map-map (λ t. t.typed.items) (λ played. played.transcript) c.in_ok-all.all.items ∙ c.in_ok-all.ensures
    ∙ sym (map-map (λ s. s.items) (λ p. p.typed) c.in_ok-players.players.items)
    ∙ ap (map (λ s. s.items)) c.in_ok-players.ensures

pub returns-in-Ok-clause-run : goal.returns-in-Ok-clause-run
returns-in-Ok-clause-run g c =
    ∥∥₁_map c.in_ok-desks.ensures.played (λ z.
    all_played c.one_run.ensures (length g.J.HallName.cells) g.J.HallName.loaded c.in-Ok.settled.history
    c.in_ok-desks.desks.items c.in_ok-desks.transcripts.items c.in-Ok.ensures.settled z)
