use Rattle.std.proofs.Common.{ℕ, List, [], length, sym, ap, subst}
use Rattle.std.proofs.Math.Logic.{∥∥₁_map}
use Rattle.mud_hall.specs.Desk.{DeskState, TakesIn, IsNew}
use Rattle.mud_session.specs.State.{DoorState}
use Rattle.mud_session.specs.Feeds.{Feeds}
use Rattle.mud_theorems.specs.declared.transcript.Transcript.{Transcript}
use Rattle.mud_theorems.specs.inner.Played.{HasPlayed}
use Rattle.mud_theorems.proofs.Feeding.{has_played}
use Rattle.mud_theorems.proofs.played.Player.play.Goals as goal

pub invariant_of-result : goal.invariant_of-result
invariant_of-result g c =
    let capacity : ℕ = length g.J.HallName.cells in
    let loaded = g.J.HallName.loaded in
    let old = c.in_ok-session.session in
    let new = c.feed.new.self in
    let was : DoorState = c.new-seat.result in
    let is : DoorState = c.feed.new.door in
    let t : Transcript = record { typed = c.args.self.typed; sent = c.take_out-sent.result } in
    let feeds : Feeds TakesIn [] t.typed.items old new was is =
    subst (λ (bytes : List ℕ). Feeds TakesIn [] bytes old new was is) c.as_slice.ensures.value
    (c.in-Ok.ensures.ok [] c.in_ok-session.ensures.terminal) in
    record {
      work = ∥∥₁_map c.args.self.new (λ fresh.
          subst (λ (d : DeskState). HasPlayed capacity loaded d t) (sym c.into_desk-desk.ensures.state)
          (has_played c.turns.ensures capacity loaded old new was is t
          (ap (λ (d : DoorState). d.capacity) c.new-seat.ensures)
          (subst (IsNew loaded) (sym (ap (λ (d : DoorState). d.desk) c.new-seat.ensures)) fresh)
          c.in_ok-session.ensures.out feeds c.take_out-sent.ensures.text));
    }
