use Rattle.std.proofs.Common.{◌≡◌, map, sym, ◌∙◌, ap, subst, arith}
use Rattle.std.proofs.lemmas.List.{with_items_is}
use Rattle.std.specs.Vec.{with_items}
use Rattle.mud_roads.specs.inner.Tables.{rows, Fit, costing}
use Rattle.mud_roads.proofs.Rows.{rows-mapped, fit-mapped}
use Rattle.mud_roads.proofs.table.Table.set_cost.Goals as goal

pub invariant_of-self : goal.invariant_of-self
invariant_of-self c =
    let ends = c.self.inside.ends.items in
    let steps = c.self.inside.steps in
    let costs = costing c.args.exit c.args.cost in
    let now : (with_items steps c.set_costs.new.steps).items ≡ map costs steps.items =
    with_items_is steps c.set_costs.new.steps (omega (arith, c.deref_mut.ensures.len, c.set_costs.auto.steps))
    ∙ c.set_costs.ensures ∙ ap (map costs) c.deref_mut.ensures.value in
    subst (Fit 0 ends) (sym now) (fit-mapped costs 0 ends steps.items c.self.invariant)

pub returns : goal.returns
returns c =
    let ends = c.self.inside.ends.items in
    let steps = c.self.inside.steps in
    let costs = costing c.args.exit c.args.cost in
    let now : (with_items steps c.set_costs.new.steps).items ≡ map costs steps.items =
    with_items_is steps c.set_costs.new.steps (omega (arith, c.deref_mut.ensures.len, c.set_costs.auto.steps))
    ∙ c.set_costs.ensures ∙ ap (map costs) c.deref_mut.ensures.value in
    ap (rows 0 ends) now ∙ rows-mapped costs 0 ends steps.items ∙ ap (map (map costs)) c.self.view_is
