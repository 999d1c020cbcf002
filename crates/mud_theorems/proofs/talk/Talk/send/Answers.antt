use Rattle.std.proofs.Common.{◌≤◌, ℕ, true, List, [], length, take, sym, ap, subst}
use Rattle.std.proofs.Math.Logic.{∥∥₁_map, ∥∥₁_elim, ∥∥₁_prop}
use Rattle.mud_theorems.specs.Peers.{Becomes, with_output, with_last}
use Rattle.mud_theorems.specs.inner.Talking.{IsTalking, IsOver}
use Rattle.mud_theorems.proofs.Connections.{talk_cut, talk_says, talk_breaks}
use Rattle.mud_theorems.proofs.talk.Talk.send.Goals as goal

pub new-requires : goal.new-requires
new-requires g c =
    let capacity = length g.J.HallName.cells in
    let loaded = g.J.HallName.loaded in
    let traffic = g.P.Peer.traffic c.args.peer in
    subst (λ (n : ℕ). ∥ IsOver capacity loaded traffic n true c.args.client ∥₁) (sym c.in-Err.ensures.err)
    (∥∥₁_map c.requires.talks (talk_cut capacity loaded traffic c.args.told c.args.client c.args.text.text.items))

pub invariant_of-result-then-send : goal.invariant_of-result-then-send
invariant_of-result-then-send g c =
    let capacity = length g.J.HallName.cells in
    let loaded = g.J.HallName.loaded in
    let old = g.P.Peer.traffic c.args.peer in
    let new = g.P.Peer.traffic c.send.new.self in
    let text = c.open-bytes.result.items in
    let same = sym (ap (λ v. v.items) c.open-bytes.ensures.text) in
    let far = subst (λ (n : ℕ). n ≤ c.in-Ok.told) c.version.ensures c.in-Ok.ensures.ok.0 in
    let gets = subst (λ (l : List ℕ). Becomes (with_output l) old new) c.deref.ensures.value
    (c.send.ensures.all c.if-send.true) in
    record {
      talks = ∥∥₁_elim c.open-bytes.ensures.tells ∥∥₁_prop (λ says.
          ∥∥₁_map c.requires.talks (λ t.
          talk_says capacity loaded old new c.args.told c.in-Ok.told c.args.text.version c.args.client text
          c.in-Ok.ensures.ok.1 far says gets
          (subst (λ (l : List ℕ). IsTalking capacity loaded old c.args.told c.args.client [] l) same t)));
      rests = c.requires.rests;
    }

pub new-requires-else-send : goal.new-requires-else-send
new-requires-else-send g c =
    let capacity = length g.J.HallName.cells in
    let loaded = g.J.HallName.loaded in
    let old = g.P.Peer.traffic c.args.peer in
    let new = g.P.Peer.traffic c.send.new.self in
    let text = c.open-bytes.result.items in
    let same = sym (ap (λ v. v.items) c.open-bytes.ensures.text) in
    let far = subst (λ (n : ℕ). n ≤ c.in-Ok.told) c.version.ensures c.in-Ok.ensures.ok.0 in
    let part = c.send.ensures.part c.if-send.false in
    let gets = subst (λ (l : List ℕ). Becomes (with_last (take part.0 l)) old new) c.deref.ensures.value part.1 in
    ∥∥₁_elim c.open-bytes.ensures.tells ∥∥₁_prop (λ says.
    ∥∥₁_map c.requires.talks (λ t.
    talk_breaks capacity loaded old new c.args.told c.in-Ok.told c.args.text.version part.0 c.args.client text
    c.in-Ok.ensures.ok.1 far says gets
    (subst (λ (l : List ℕ). IsTalking capacity loaded old c.args.told c.args.client [] l) same t)))
