use Rattle.std.proofs.Common.{◌≡◌, ℕ, suc, ◌+◌, ◌-◌, None, true, false, arith, ap, ◌∙◌, sym}
use Rattle.mud_world.proofs.Reaching.{arrives-none, arrives-actor, arrives-room, arrives-on}
use Rattle.mud_world.specs.State.{place_of}
use Rattle.mud_world.proofs.world.World.arrives.Goals as goal
use Rattle.mud_world.proofs.world.World.arrives.Goals.{then-place-actor-via-then-place-actor}
use Rattle.mud_world.proofs.world.World.arrives.Goals.{then-place-actor-via-else-place-actor+then-is_in}

pub returns-then-place-actor : goal.returns-then-place-actor
returns-then-place-actor c =
    let next = ap (λ w. w.next) c.self.view_is in
    let m : ℕ = c.args.self.now.next - (c.loop-step._step + 1) in
    elim c.then-place-actor.branch [
      | then-place-actor-via-then-place-actor w ↦
          sym (arrives-actor c.args.self.now m c.args.actor _ _ (sym c.in-Some.ensures) w.if-place-actor.true)
          ∙ c.loop-step.invariant (suc m) (omega (arith, next, c.loop-step-test.true))
      | then-place-actor-via-else-place-actor+then-is_in w ↦
          sym (arrives-room c.args.self.now m c.args.actor _ _ (sym c.in-Some.ensures) (sym w.if-is_in.ensures))
          ∙ c.loop-step.invariant (suc m) (omega (arith, next, c.loop-step-test.true))
    ]

pub returns-then-not-is_thing : goal.returns-then-not-is_thing
returns-then-not-is_thing c =
    let next = ap (λ w. w.next) c.self.view_is in
    let m : ℕ = c.args.self.now.next - (c.loop-step._step + 1) in
    sym (arrives-on c.args.self.now m c.args.actor _ _ false (sym c.in-Some.ensures) c.if-place-actor.false
    (sym c.if-is_in.ensures) (sym c.if-not-is_thing.ensures))
    ∙ c.loop-step.invariant (suc m) (omega (arith, next, c.loop-step-test.true))

pub loop-step-preserved : goal.loop-step-preserved
loop-step-preserved c = λ m left.
    sym (arrives-on c.args.self.now m c.args.actor _ _ true (sym c.in-Some.ensures) c.if-place-actor.false
    (sym c.if-is_in.ensures) (sym c.if-not-is_thing.ensures))
    ∙ c.loop-step.invariant (suc m) (omega (arith, left))

pub returns-in_default : goal.returns-in_default
returns-in_default c =
    let next = ap (λ w. w.next) c.self.view_is in
    let m : ℕ = c.args.self.now.next - (c.loop-step._step + 1) in
    let gone : place_of c.args.self.now c.loop-step.at ≡ None = grind (arith, c.in_default.not-Some) in
    sym (arrives-none c.args.self.now m c.args.actor _ gone)
    ∙ c.loop-step.invariant (suc m) (omega (arith, next, c.loop-step-test.true))

pub returns : goal.returns
returns c =
    let next = ap (λ w. w.next) c.self.view_is in
    c.loop-step.invariant 0 (omega (arith, next, c.loop-step-test.false, c.loop-step.auto._step-end))
