use denote.Exit.{no, unseen}
use denote.Param.{param}
use denote.Param.Send.{IsSend, Quiet-if}
use mir.Syntax.{of_param}
use Rattle.mud_hall.proofs.Crosses.{desk_send, hall_sync}
use Rattle.mud_hall.specs.contracts.desk.Desk as Desk
use Rattle.mud_tests.proofs.hall.crowd_desks.Goals as goal

pub talk_all-requires-sync-H : goal.talk_all-requires-sync-H
talk_all-requires-sync-H g c κs within =
    record {
      shared = (hall_sync (param 0 g.row.J) g.J.HallName c.type_bounds.send-J c.type_bounds.sync-J).shared;
    }

pub talk_all-requires-send-D : goal.talk_all-requires-send-D
talk_all-requires-send-D g c κs within =
    let R = Desk.the_row (param 0 g.row.J) g.J.HallName in
    let sent : IsSend R = desk_send (param 0 g.row.J) g.J.HallName c.type_bounds.send-J in
    record {
      owned = sent.owned;
      leaving = λ k. Quiet-if (k (of_param 1)) (R.exit no) unseen (sent.leaving no) (λ x w. tt);
    }
