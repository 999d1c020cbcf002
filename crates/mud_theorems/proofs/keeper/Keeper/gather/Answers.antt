use Rattle.std.proofs.Common.{true, refl, sym, ap, ◌∙◌}
use Rattle.mud_theorems.specs.inner.Durable.{knower}
use Rattle.mud_theorems.proofs.Keeping.{failed_kept, gathered_kept, prefix_trans}
use Rattle.mud_theorems.proofs.keeper.Keeper.gather.Goals as goal

pub invariant_of-self : goal.invariant_of-self
invariant_of-self g c =
    let i = c.self.invariant in
    let j = c.self.inside.journal in
    let es = c.self.inside.reader in
    let all = c.gather.new.self in
    let more = c.gather.ensures.gathered.begun in (
      failed_kept (g.D.Appends.kept j.disk) (g.D.Appends.kept c.fail.new.self.disk) all j.count c.fail.new.self.count
          true c.fail.new.self.has_failed (ap (λ k. g.D.Appends.kept k.disk) c.fail.ensures)
          (ap (λ k. k.count) c.fail.ensures) (ap (λ k. k.has_failed) c.fail.ensures)
          (gathered_kept (g.D.Appends.kept j.disk) es all j.count j.has_failed true i.0 more refl),
      prefix_trans g.J.HallName.loaded es all i.1 more,
      i.2,
      i.3 ∙ ap (λ k. knower k.count) (sym c.fail.ensures),
    )
