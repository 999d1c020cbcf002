use Rattle.std.proofs.Common.{◌==◌, ◌∙◌, ℕ, List, rules}
use borrow.Author.Tests.{tests}
use Rattle.std.proofs.lemmas.Iterator.Search.{any_from_yields_List}
use Rattle.std.proofs.lemmas.Iterator.Splits.{YieldsList-from_slice_split}
use Rattle.websocket.specs.Headers.{comma, eq_ignore_case}
use Rattle.mud_web.specs.Fields.{trim}
use Rattle.mud_web.proofs.FieldLists.{any_map}
use Rattle.mud_web.proofs.fields.is_listed.Goals as goal

pub returns : goal.returns
returns c =
    any_from_yields_List (λ (m : List ℕ). eq_ignore_case (trim m) c.args.wanted.now) _ _ _ c.any.ensures.ran
    (YieldsList-from_slice_split _ (λ (b : ℕ). b == comma) c.args.value.now c.split.ensures.rest c.split.ensures.done
    c.split.ensures.closure (λ x b q k. search (rules, tests))) (λ x b q k. search (rules, tests))
    ∙ any_map (λ (m : List ℕ). eq_ignore_case m c.args.wanted.now) trim _
