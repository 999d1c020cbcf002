use Rattle.std.proofs.Common.{rules, inr}
use Rattle.mud_tests.proofs.Moments.{equal}
use Rattle.mud_tests.proofs.disk.KnownDisk.begin_call.Goals as goal

pub returns-clause-past : goal.returns-clause-past
returns-clause-past c =
    let s = c.args.self.now.store.now in
    let i = c.in-Ok.image in
    inr (
      i,
      search rules,
      equal s.is_made i.is_made s.synced.items i.synced.items s.unsynced.items i.unsynced.items
          c.in-Ok.ensures.made c.in-Ok.ensures.synced c.in-Ok.ensures.unsynced,
    )
