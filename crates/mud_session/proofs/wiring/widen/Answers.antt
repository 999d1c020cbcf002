use Rattle.std.proofs.Common.{◌≡◌, ◌+◌, ◌-◌, ℕ, List, take, get_or, ap, subst, arith}
use Rattle.std.specs.List.{flat_map}
use Rattle.mud_session.specs.inner.Wire.{on_wire}
use Rattle.mud_session.proofs.Widening.{IsWidened, widened-lf, widened-other}
use Rattle.mud_session.proofs.wiring.widen.Goals.{then-byte-eq10, else-byte-eq10}
use Rattle.mud_session.proofs.wiring.widen.Goals as goal

pub loop-done-preserved : goal.loop-done-preserved
loop-done-preserved c =
    let front : ℕ = c.args.front in
    let whole : List ℕ = flat_map on_wire (take c.args.end c.args.out.now) in
    let out : List ℕ = c.loop-done.out in
    let to : ℕ = c.loop-done.to in
    let k : ℕ = c.args.end - (c.loop-done.done + 1) in
    let b : ℕ = get_or out (c.args.end - c.loop-done.done - 1) 0 in
    let one : c.args.end - c.loop-done.done ≡ k + 1 = omega (arith, c.loop-done-test.true) in
    let same : c.args.end - c.loop-done.done - 1 ≡ k = omega (arith, one) in
    let w : IsWidened front whole (k + 1) to out =
    subst (λ (n : ℕ). IsWidened front whole n to out) one c.loop-done.invariant in
    let at : b ≡ get_or out k 0 = ap (λ (n : ℕ). get_or out n 0) same in
    elim c.if-byte-eq10.branch [
      | then-byte-eq10 v ↦ rw (v.to-is, v.out-is) (widened-lf front whole k to b out w at v.if-byte-eq10.true)
      | else-byte-eq10 v ↦ rw (v.to-is, v.out-is) (widened-other front whole k to b out w at v.if-byte-eq10.false)
    ]
