use Rattle.std.proofs.Common.{arith, sym, ◌∙◌, ap, ◌≡◌, ◌+◌, Some, slice_get, length}
use Rattle.mud_world.specs.History.{step_or_same}
use Rattle.mud_row.proofs.Worlds.{world_at-next}
use Rattle.mud_row.proofs.replica.Replica.step.Goals as goal

pub invariant_of-self-in-Some : goal.invariant_of-self-in-Some
invariant_of-self-in-Some c =
    let same = c.self.view_is ∙ c.peek.ensures.same in
    let list : c.self.inside.pass.list ≡ c.args.self.now.list = ap (λ s. s.list) same in
    let at : c.self.inside.at ≡ c.args.self.now.at = ap (λ s. s.at) same in
    let here : slice_get c.self.inside.pass.list c.self.inside.at ≡ Some c.in-Some.entry.now =
    rw (list, at) (sym c.in-Some.ensures.entry) in (
      omega (arith, ap length list, at, c.in-Some.ensures.place),
      c.in_ok-take_in-in-Some.ensures.ok
          ∙ (ap (λ w. step_or_same w c.in-Some.entry.now.change) c.self.invariant.1
          ∙ sym (world_at-next c.self.inside.pass.list c.self.inside.at c.in-Some.entry.now here)),
    )

pub returns-in_ok-take_in-in-Some-clause-ok : goal.returns-in_ok-take_in-in-Some-clause-ok
returns-in_ok-take_in-in-Some-clause-ok c =
    (c.in-Some.ensures.place, ap (λ s. s.at + 1) (c.self.view_is ∙ c.peek.ensures.same))
