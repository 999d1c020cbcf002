use Rattle.std.proofs.Common.{◌≡◌, ◌+◌, ◌-◌, List, ℕ, Option, Some, length, take, drop, ap, ◌∙◌, arith}
use Rattle.std.proofs.lemmas.Grind.{common_steps}
use Rattle.mud_theorems.specs.Peers.{Traffic}
use Rattle.mud_tests.proofs.Received.{received}
use Rattle.mud_tests.proofs.served.MemoryPeerPeer.receive.Goals as goal

pub returns-clause-input : goal.returns-clause-input
returns-clause-input c =
    let p = c.args.self.now in
    let n = c.min-count.result in
    let part = c.copy_from_slice.new.self in
    let with_came : List ℕ → Option Traffic = λ l. Some (record {
      came = l;
      sent = p.got.items;
      has_ended = p.has_ended;
      has_left = p.has_left;
    }) in
    let is = c.copy_from_slice.ensures.after
    ∙ ap (λ (l : List ℕ). take ((p.at + n) - p.at) (drop p.at l)) c.deref.ensures.value in
    let long : length part ≡ n =
    grind (arith, common_steps, c.copy_from_slice.ensures.len, c.min-count.ensures, c.len.ensures) in
    ap with_came (received p.at n p.sends.items part (drop n c.args.buffer.now) is long)
