use Rattle.mud_theorems.proofs.keeper.Keeper.into_journal.Goals as goal

pub returns-clause-left : goal.returns-clause-left
returns-clause-left g c bytes since = g.met.D.Appends.left c.without_name.result.disk bytes since
