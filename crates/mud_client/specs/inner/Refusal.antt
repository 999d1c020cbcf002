-- The reasons why a step is not done.
use Rattle.std.specs.Prelude.{Some}
use Rattle.mud_client.specs.declared.outgoing.End.{End}
use Rattle.mud_client.specs.Steps.{MatchEnd}

abbrev pub IsRefusal : End → Type 0
IsRefusal end = MatchEnd (Some end) ⊥ (λ error. ⊥) (Unit {0})
