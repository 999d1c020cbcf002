use Rattle.std.proofs.Common.{◌≤◌, [], ◌∷◌, ◌++◌, length, map, sym, ◌∙◌, ap, subst, arith}
use Rattle.std.proofs.Math.Logic.{∥∥₁_map}
use Rattle.std.proofs.lemmas.List.{map-append}
use Rattle.mud_hall.specs.Desk.{View}
use Rattle.mud_theorems.specs.inner.Talking.{WasServed}
use Rattle.mud_theorems.proofs.Jobs.{zip_pushed}
use Rattle.mud_theorems.proofs.Connections.{served_more, all_more, or_left, or_right}
use Rattle.mud_theorems.proofs.serving.take_apart.Goals as goal

pub loop-line-preserved : goal.loop-line-preserved
loop-line-preserved g c =
    let one = c.in-Some.line in
    let capacity = length g.J.HallName.cells in
    let loaded = g.J.HallName.loaded in
    let traffic = g.P.Peer.traffic in
    let i = c.loop-line.invariant in
    let count = c.args.keeper.now.count in
    let cut = c.loop-line.is_any_cut in
    let few : one.told ≤ count = subst (λ k. one.told ≤ k.count) i.1 c.compare.ensures.told in (
      ap (map g.P.Peer.name) c.in_ok-push-2.ensures.items
          ∙ map-append g.P.Peer.name c.loop-line.peers.items (one.peer ∷ [])
          ∙ ap (λ l. l ++ g.P.Peer.name one.peer ∷ []) i.0
          ∙ sym (map-append (λ line. g.P.Peer.name line.peer) c.loop-line.yielded (one ∷ [])),
      c.compare.ensures.same ∙ i.1,
      zip_pushed (λ (d : View) p. WasServed capacity loaded (traffic p) count _ d.state) c.loop-line.desks.items
          c.push.new.self.items c.loop-line.peers.items c.push-in-loop-line.new.self.items one.desk one.peer
          c.in_ok-push.ensures.items c.in_ok-push-2.ensures.items
          (∥∥₁_map i.2
          (all_more capacity loaded traffic count count cut _ c.loop-line.desks.items c.loop-line.peers.items
          (omega arith) (or_left cut one.is_cut)))
          (∥∥₁_map one.served
          (served_more capacity loaded (traffic one.peer) one.told count one.is_cut _ one.desk.state few
          (or_right cut one.is_cut))),
    )
