-- Questions of guests.
use Rattle.std.proofs.Common.{◌≡◌, ℕ, Option, Some, None, refl}
use Rattle.mud_words.specs.Line.{Line}
use Rattle.mud_world.specs.State.{State}
use Rattle.mud_rules.specs.declared.verdict.Query.{Query}
use Rattle.mud_rules.specs.declared.verdict.Query.TheVariants as query
use Rattle.mud_rules.specs.declared.verdict.Verdict.TheVariants as verdict
use Rattle.mud_rules.specs.Table.{decision}
use Rattle.mud_rules.proofs.Guests.{guest-asks}
use Rattle.mud_hall.specs.inner.Answers.{CanAsk}

-- only a player asks for a journey
pub can-ask : (w : State) (player : Option ℕ) (l : Line) (q : Query) → decision w player l ≡ verdict.Ask q
    → CanAsk player q
can-ask w None l (query.View view) is = tt
can-ask w None l (query.Journey journey) is = absurd ((guest-asks w l (query.Journey journey) is journey).0 refl)
can-ask w None l (query.Proof journey) is = absurd ((guest-asks w l (query.Proof journey) is journey).1 refl)
can-ask w None l query.History is = tt
can-ask w (Some p) l (query.View view) is = tt
can-ask w (Some p) l (query.Journey journey) is = refl
can-ask w (Some p) l (query.Proof journey) is = refl
can-ask w (Some p) l query.History is = tt
