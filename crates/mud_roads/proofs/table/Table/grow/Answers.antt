use Rattle.std.proofs.Common.{◌≡◌, ℕ, List, [], ◌∷◌, ◌++◌, length, ◌∙◌, ap, arith}
use Rattle.mud_roads.specs.declared.label.Step.{Step}
use Rattle.mud_roads.proofs.Rows.{rows-empty, fit-empty}
use Rattle.mud_roads.proofs.table.Table.grow.Goals as goal

pub invariant_of-self-2 : goal.invariant_of-self-2
invariant_of-self-2 c =
    let ends = c.self.inside.ends.items in
    let steps = c.self.inside.steps.items in
    let size : c.len.result ≡ length steps = omega (arith, c.len.ensures) in
    let now : c.push.new.self.items ≡ ends ++ length steps ∷ [] =
    c.in_ok-push.ensures.items ∙ ap (λ (n : ℕ). ends ++ n ∷ []) size in
    rw now (fit-empty ends steps c.self.invariant)

pub returns-clause-ok : goal.returns-clause-ok
returns-clause-ok c =
    let ends = c.self.inside.ends.items in
    let steps = c.self.inside.steps.items in
    let size : c.len.result ≡ length steps = omega (arith, c.len.ensures) in
    let now : c.push.new.self.items ≡ ends ++ length steps ∷ [] =
    c.in_ok-push.ensures.items ∙ ap (λ (n : ℕ). ends ++ n ∷ []) size in
    rw now (rows-empty ends steps c.self.invariant ∙ ap (λ (rs : List (List Step)). rs ++ [] ∷ []) c.self.view_is)
