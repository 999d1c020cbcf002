use Rattle.std.proofs.Common.{rules, sym, ap, ◌∙◌}
use Rattle.mud_theorems.specs.inner.Durable.{claim_of, claimer}
use Rattle.mud_theorems.proofs.Claims.{gives_as}
use Rattle.mud_theorems.proofs.keeper.Keeper.durable.Goals as goal

pub split_pass-pass-requires : goal.split_pass-pass-requires
split_pass-pass-requires g c =
    let i = c.self.invariant in
    (search rules, (search rules, (i.2 ∙ sym c.requires, gives_as _ _ _ i.3)))

pub new-requires : goal.new-requires
new-requires g c =
    let i = c.self.invariant in
    let t = c.split_pass-pass.ensures in
    record {
      table = t.given.0 ∙ i.2;
      idle = t.given.2;
      claims = t.given.1 ∙ ap claim_of i.3 ∙ ap claimer (sym c.receipt.ensures.up_to);
    }

pub invariant_of-self : goal.invariant_of-self
invariant_of-self g c =
    let i = c.self.invariant in
    let t = c.split_pass-pass.ensures in
    (i.0, i.1, t.kept.0.0 ∙ i.2, t.kept.1 ∙ i.3)
