use Rattle.std.proofs.Common.{subst, Ok, Err, [], ◌∷◌}
use Rattle.std.specs.Prelude.{codes}
use Rattle.mud_key.specs.declared.names.NamesFault.TheVariants.{BadName}
use Rattle.mud_key.specs.Finds.{names_in, Finds}
use Rattle.mud_key.proofs.Found.{names_read}
use Rattle.mud_key.proofs.NamesTaken.{one_list}
use Rattle.mud_world.proofs.FirstNames.{hall_text}
use Rattle.mud_world.proofs.world.hall_names.Goals as goal

pub unreachable-requires : goal.unreachable-requires
unreachable-requires c =
    names_read (codes "The Hall") (Err BadName)
    (subst (λ e. Finds (names_in (codes "The Hall")) (Err e)) c.in-Err-BadName.field-0-is
    c.in-Err-BadName.ensures.finds)
    (codes "The Hall" ∷ []) hall_text

pub returns-in-Ok : goal.returns-in-Ok
returns-in-Ok c =
    one_list (codes "The Hall") c.in-Ok.names (codes "The Hall" ∷ [])
    (names_read (codes "The Hall") (Ok c.in-Ok.names) c.in-Ok.ensures.finds) hall_text
