use Rattle.std.proofs.Common.{length, true≢false}
use Rattle.std.proofs.Math.Logic.{∥∥₁_map}
use Rattle.mud_theorems.proofs.Connections.{talk_begins}
use Rattle.mud_theorems.proofs.talk.Talk.new.Goals as goal

pub invariant_of-result : goal.invariant_of-result
invariant_of-result g c =
    let made = c.in-Ok.ensures in
    record {
      talks = ∥∥₁_map c.args.arrival.fresh (λ fresh.
          talk_begins (length g.J.HallName.cells) g.J.HallName.loaded (g.P.Peer.traffic c.args.arrival.peer) c.args.told
          c.args.desk.state c.in-Ok.client fresh c.requires made.framing made.desk made.capacity made.stands);
      rests = ∣ (λ none. absurd (true≢false none)) ∣₁;
    }
