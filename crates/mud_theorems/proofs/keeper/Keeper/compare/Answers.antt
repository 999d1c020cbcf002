use Rattle.std.proofs.Common.{◌≤◌, sym, ◌∙◌, subst}
use Rattle.crossbeam_utils.specs.Seq.{cell_view}
use Rattle.mud_theorems.specs.declared.durable.Knowledge.{Knowledge}
use Rattle.mud_theorems.proofs.keeper.Keeper.compare.Goals as goal

pub compare-requires : goal.compare-requires
compare-requires g c =
    let i = c.self.invariant in
    let t = c.told.invariant in record {
      cell = i.2 ∙ sym c.requires;
      claim = (t.0 ∙ sym i.2, t.1);
      knows = (c.self.inside.journal.count, i.3);
    }

pub invariant_of-self : goal.invariant_of-self
invariant_of-self g c =
    let i = c.self.invariant in
    (i.0, i.1, c.compare.ensures.cell ∙ i.2, c.compare.ensures.knows ∙ i.3)

pub returns-clause-told : goal.returns-clause-told
returns-clause-told g c =
    let i = c.self.invariant in
    let few =
    subst (λ (v : Knowledge). v.claims ≤ c.self.inside.journal.count) c.told.invariant.2
    (subst (λ (v : Knowledge). (cell_view c.told.inside.pass).claims ≤ v.count) i.3 c.compare.ensures.claim) in
    subst (λ k. c.args.told ≤ k.count) c.self.view_is (subst (λ n. n ≤ c.self.inside.journal.count) c.told.view_is few)
