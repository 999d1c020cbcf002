use Rattle.std.proofs.Common.{sym, ap, ◌∙◌}
use Rattle.mud_theorems.specs.inner.Durable.{knower}
use Rattle.mud_theorems.proofs.Keeping.{failed_kept}
use Rattle.mud_theorems.proofs.keeper.Keeper.fail.Goals as goal

pub invariant_of-self : goal.invariant_of-self
invariant_of-self g c =
    let i = c.self.invariant in (
      failed_kept (g.D.Appends.kept c.self.inside.journal.disk) (g.D.Appends.kept c.fail.new.self.disk)
          c.self.inside.reader c.self.inside.journal.count c.fail.new.self.count c.self.inside.journal.has_failed
          c.fail.new.self.has_failed (ap (λ k. g.D.Appends.kept k.disk) c.fail.ensures)
          (ap (λ k. k.count) c.fail.ensures) (ap (λ k. k.has_failed) c.fail.ensures) i.0,
      i.1,
      i.2,
      i.3 ∙ ap (λ k. knower k.count) (sym c.fail.ensures),
    )
