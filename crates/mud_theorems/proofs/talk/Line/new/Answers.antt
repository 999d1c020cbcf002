use Rattle.std.proofs.Common.{length, sym, subst}
use Rattle.std.proofs.Math.Logic.{∥∥₁_map}
use Rattle.mud_hall.specs.Desk.{DeskState}
use Rattle.mud_theorems.specs.inner.Talking.{WasServed}
use Rattle.mud_theorems.proofs.Connections.{was_served}
use Rattle.mud_theorems.proofs.talk.Line.new.Goals as goal

pub invariant_of-result : goal.invariant_of-result
invariant_of-result g c =
    let capacity = length g.J.HallName.cells in
    let loaded = g.J.HallName.loaded in
    let traffic = g.P.Peer.traffic c.args.peer in
    let is_cut = c.args.is_cut in
    record {
      served = ∥∥₁_map c.requires (λ over.
          subst (λ (d : DeskState). WasServed capacity loaded traffic c.args.told is_cut d) (sym c.into_desk.ensures)
          (was_served capacity loaded traffic c.args.told is_cut c.args.client over));
    }
