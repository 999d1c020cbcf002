use Rattle.std.proofs.Common.{◌≡◌, Option, Some, None, sym, ◌∙◌, rules, tests}
use Rattle.std.specs.Option.{option_map}
use Rattle.std.proofs.lemmas.Iterator.{YieldsList-from_slice}
use Rattle.std.proofs.lemmas.Iterator.Consumers.{YieldsList-from_copied}
use Rattle.std.proofs.lemmas.Iterator.Search.{find_from_yields_List}
use Rattle.mud_world.specs.declared.refusal.Refusal.{Refusal}
use Rattle.mud_world.specs.Legal.{refusal, fails}
use Rattle.mud_world.proofs.world.World.legal.Goals.{After-find}
use Rattle.mud_world.proofs.world.World.legal.Goals as goal

as_it_is : (found is : Option Refusal) → option_map (λ (f : Refusal). f) found ≡ is → found ≡ is
as_it_is None is same = same
as_it_is (Some f) is same = same

-- what was found is the refusal
first : (c : After-find) → c.find.result ≡ refusal c.args.self.now c.args.change.now
first c =
    as_it_is c.find.result _
    (find_from_yields_List (fails c.args.self.now c.args.change.now) _ _ c.find.result c.find.ensures.ran
    (YieldsList-from_copied (YieldsList-from_slice c.refusals_of-refusals.result.now cc))
    (λ x b q k. search (rules, tests)))
    ∙ c.refusals_of-refusals.ensures c.args.self.now c.args.change.now.actor

pub returns-in-None : goal.returns-in-None
returns-in-None c = sym (first (goal.at.returns-in-None c).After-find) ∙ c.in-None.is

pub returns-in-Some : goal.returns-in-Some
returns-in-Some c = sym (first (goal.at.returns-in-Some c).After-find) ∙ c.in-Some.is
