use Rattle.std.proofs.Common.{◌≡◌, List, ℕ, Option, Some, None, Err, sym, subst, ◌∙◌}
use Rattle.std.specs.Prelude.{codes}
use Rattle.mud_key.specs.Finds.{names_in, Finds}
use Rattle.mud_undo.proofs.Spares.{gone_read}
use Rattle.mud_undo.proofs.leaving.spare_names.Goals as goal

none : (names : List (List ℕ)) → ◌≡◌ {A = Option (List (List ℕ))} None (Some names) → ⊥
none names e = absurd (cc)

one : (names others : List (List ℕ)) → ◌≡◌ {A = Option (List (List ℕ))} (Some names) (Some others) → names ≡ others
one names others e = cc

pub unreachable-requires : goal.unreachable-requires
unreachable-requires c =
    none _ (sym (subst (λ f. Finds {A = List (List ℕ)} (names_in (codes "gone")) (Err f)) c.in-Err-BadName.field-0-is
    c.in-Err-BadName.ensures.finds) ∙ gone_read)

pub returns-in-Ok : goal.returns-in-Ok
returns-in-Ok c = one _ _ (sym c.in-Ok.ensures.finds ∙ gone_read)
