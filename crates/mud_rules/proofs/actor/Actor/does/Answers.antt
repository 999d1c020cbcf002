use Rattle.std.proofs.Common.{◌≡◌, Option, Some, None, Result, Ok, Err, sym, ap, ◌∙◌}
use Rattle.std.specs.Prelude.{MatchResult}
use Rattle.std.specs.Option.{option_map_or}
use Rattle.std.specs.Result.{result_err}
use Rattle.mud_world.specs.declared.change.Change.{Change}
use Rattle.mud_world.specs.declared.refusal.Refusal.{Refusal}
use Rattle.mud_world.specs.Legal.{refusal}
use Rattle.mud_world.specs.Refusals.{lesser}
use Rattle.mud_rules.specs.declared.verdict.Verdict.TheVariants.{Change as Changes, Refused}
use Rattle.mud_rules.proofs.Ordered.{outcome_is}
use Rattle.mud_rules.proofs.actor.Actor.does.Goals.{After-lesser}
use Rattle.mud_rules.proofs.actor.Actor.does.Goals as goal

-- what refuses a change, as an option
refused : {A : Type 0} (r : Result A Refusal) (is : Option Refusal)
    → MatchResult r (λ _. is ≡ None) (λ fault. is ≡ Some fault) → result_err r ≡ is
refused (Ok a) is none = sym none
refused (Err fault) is some = sym some

least : (c : After-lesser) → c.lesser.result
    ≡ lesser c.args.own (refusal c.args.self.now.world.now
    (record { actor = c.args.self.now.player; deed = c.args.deed }))
least c = c.lesser.ensures ∙ ap (lesser c.args.own) (c.err.ensures.value ∙ refused c.legal.result _ c.legal.ensures)

pub returns-in-Some : goal.returns-in-Some
returns-in-Some c =
    let change : Change = record { actor = c.args.self.now.player; deed = c.args.deed } in
    ap (λ (r : Option Refusal). option_map_or Refused r (Changes change))
    (sym c.in-Some.is ∙ least (goal.at.returns-in-Some c).After-lesser)
    ∙ outcome_is c.args.self.now.world.now c.args.own change

pub returns-in-None : goal.returns-in-None
returns-in-None c =
    let change : Change = record { actor = c.args.self.now.player; deed = c.args.deed } in
    ap (λ (r : Option Refusal). option_map_or Refused r (Changes change))
    (sym c.in-None.is ∙ least (goal.at.returns-in-None c).After-lesser)
    ∙ outcome_is c.args.self.now.world.now c.args.own change
