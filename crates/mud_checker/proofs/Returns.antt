-- Without a CR, none is dropped.
use Rattle.std.proofs.Common.{◌≢◌, ℕ, Bool, ◌&&◌, cond, List, [], ◌∷◌, refl, ap, ◌∙◌}
use Rattle.std.specs.Prelude.{nat_eq}
use Rattle.std.specs.List.{starts_with}
use Rattle.std.proofs.lemmas.Bool.{ne_eqb}
use Rattle.std.proofs.lemmas.List.Elements.{All-head, All-tail}
use Rattle.mud_key.specs.declared.codes.TheConstants.{LF, CR}
use Rattle.mud_checker.specs.Finding.{without_returns}
use Rattle.mud_checker.specs.Laws.{DropsNothing}

abbrev Other : ℕ → Type 0
Other b = b ≢ CR

pub drops-nothing : DropsNothing
drops-nothing [] none = refl
drops-nothing (b ∷ bytes) none =
    ap (λ (x : Bool). cond (x && starts_with nat_eq bytes (LF ∷ [])) (without_returns bytes)
    (b ∷ without_returns bytes)) (ne_eqb b CR (All-head Other b bytes none))
    ∙ ap (λ (t : List ℕ). b ∷ t) (drops-nothing bytes (All-tail Other b bytes none))
