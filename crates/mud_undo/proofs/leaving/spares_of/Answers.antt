use Rattle.std.proofs.Common.{◌++◌, ap, sym, ◌∙◌}
use Rattle.mud_undo.specs.Without.{spare}
use Rattle.mud_undo.proofs.Spares.{spares-more}
use Rattle.mud_undo.proofs.leaving.spares_of.Goals as goal

pub loop-number-preserved : goal.loop-number-preserved
loop-number-preserved c =
    c.in_ok-push_spare.ensures ∙ ap (λ l. l ++ spare c.loop-number.number) c.loop-number.invariant
    ∙ sym (spares-more c.args.first c.loop-number.number c.loop-number.auto.number)
