use Rattle.std.proofs.Common.{sym, ap, ◌∙◌}
use Rattle.mud_theorems.specs.inner.Durable.{knower}
use Rattle.mud_theorems.proofs.Claims.{none_claimed}
use Rattle.mud_theorems.proofs.Keeping.{all_kept}
use Rattle.mud_theorems.proofs.keeper.Keeper.new.Goals as goal

pub raise-requires : goal.raise-requires
raise-requires g c = record {
  cell = c.requires.first.0 ∙ sym c.requires.cell;
  knows = (0, none_claimed _, c.requires.first.1);
}

pub invariant_of-result : goal.invariant_of-result
invariant_of-result g c = (
  all_kept (g.D.Appends.kept c.args.journal.disk) c.args.reader c.args.journal.count c.args.journal.has_failed
      c.requires.holds c.requires.count,
  c.requires.begun,
  c.raise.ensures.cell ∙ c.requires.first.0,
  c.raise.ensures.knows ∙ ap knower c.len.ensures,
)
