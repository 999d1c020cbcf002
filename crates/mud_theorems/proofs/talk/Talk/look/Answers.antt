use Rattle.std.proofs.Common.{length}
use Rattle.mud_client.specs.Steps.{output_of}
use Rattle.mud_theorems.proofs.Connections.{talk_looks, look_quiet}
use Rattle.mud_theorems.proofs.talk.Talk.look.Goals as goal

pub tell-requires : goal.tell-requires
tell-requires g c =
    let capacity = length g.J.HallName.cells in
    let loaded = g.J.HallName.loaded in
    let self = c.args.self in
    let out = output_of c.nudge-client.result.1 in
    let n = c.nudge-client.ensures in
    record {
      talks = talk_looks capacity loaded (g.P.Peer.traffic self.peer) self.told self.client c.nudge-client.result.0 out
          n.step self.talks;
      rests = look_quiet capacity loaded (length self.client.desk.calls) self.client c.nudge-client.result.0 out n.step
          n.reports n.earlier;
    }
