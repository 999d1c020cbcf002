use Rattle.std.proofs.Common.{◌+◌, sym, subst}
use Rattle.std.specs.Prelude.{option_copied}
use Rattle.mud_world.specs.State.{record_at}
use Rattle.mud_diff.specs.Differences.{order, DiffersIn}
use Rattle.mud_diff.specs.inner.Found.{AreFound}
use Rattle.mud_diff.proofs.Found.{noted}
use Rattle.mud_diff.proofs.comparing.note.Goals as goal

pub returns-in_ok-push : goal.returns-in_ok-push
returns-in_ok-push c =
    let old = c.args.old.now in
    let new = c.args.new.now in
    let what = c.args.what in
    subst (AreFound old new c.args.number (order what + 1)) (sym c.in_ok-push.ensures.items)
    (noted old new c.args.number what c.args.found.now.items c.requires
    (subst (λ o. DiffersIn what o (record_at new c.args.number)) c.get.ensures
    (subst (DiffersIn what (option_copied c.get.result)) c.get-2.ensures c.if-differs_in.ensures)))
