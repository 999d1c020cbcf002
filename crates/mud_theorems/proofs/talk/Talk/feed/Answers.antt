use Rattle.std.proofs.Common.{length}
use Rattle.mud_client.specs.Steps.{output_of}
use Rattle.mud_theorems.proofs.Connections.{talk_steps, step_quiet}
use Rattle.mud_theorems.proofs.talk.Talk.feed.Goals as goal

pub tell-requires : goal.tell-requires
tell-requires g c =
    let capacity = length g.J.HallName.cells in
    let loaded = g.J.HallName.loaded in
    let traffic = g.P.Peer.traffic c.args.peer in
    let out = output_of c.feed-client.result.1 in
    let f = c.feed-client.ensures in
    record {
      talks = talk_steps capacity loaded traffic c.args.told c.args.client c.feed-client.result.0 c.args.bytes.now out
          f.step c.requires;
      rests = step_quiet capacity loaded traffic c.args.told (length c.args.client.desk.calls) c.args.client
          c.feed-client.result.0 c.args.bytes.now out f.step f.reports f.earlier c.requires;
    }
