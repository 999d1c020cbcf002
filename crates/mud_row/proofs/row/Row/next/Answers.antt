use Rattle.std.proofs.Common.{◌++◌, ◌∷◌, [], ap, ◌∙◌, arith}
use Rattle.mud_row.proofs.Notes.{name_at, names-set, IsBeside, beside, kept-past, counted-kept, front-more}
use Rattle.mud_row.proofs.Notes.{counted-more}
use Rattle.mud_row.proofs.row.Row.next.Goals.{After-len}
use Rattle.mud_row.proofs.row.Row.next.Goals as goal

-- the notes of the pass match the cells
lies_beside : (c : After-len)
    → IsBeside c.self.inside.cells.items c.pass.inside.notes.items c.pass.inside.count c.args.pass.now c.args.self.now
lies_beside c = beside _ _ _ _ _ c.pass.view_is c.requires c.self.view_is c.pass.invariant

pub index-requires : goal.index-requires
index-requires c =
    let b = lies_beside (goal.at.index-requires c).After-len in omega arith

pub index_mut-requires : goal.index_mut-requires
index_mut-requires c =
    let b = lies_beside (goal.at.index_mut-requires c).After-len in omega arith

pub get_as-requires : goal.get_as-requires
get_as-requires c =
    let b = lies_beside (goal.at.get_as-requires c).After-len in
    name_at c.self.inside.cells.items _ c.pass.inside.count _ _ b.names (omega arith) c.index.ensures
    c.index_mut.ensures.value

pub overflow_add-pass : goal.overflow_add-pass
overflow_add-pass c =
    let b = lies_beside (goal.at.overflow_add-pass c).After-len in omega arith

pub invariant_of-pass : goal.invariant_of-pass
invariant_of-pass c =
    counted-kept _ _ _ _ c.pass.invariant (kept-past _ _ _ _ c.index_mut.ensures.value c.get_as.ensures.cell)

pub invariant_of-pass-in-Some : goal.invariant_of-pass-in-Some
invariant_of-pass-in-Some c =
    let b = lies_beside (goal.at.invariant_of-pass-in-Some c).After-len in
    counted-more c.pass.inside.count c.pass.inside.notes.items _ _ c.pass.invariant (omega arith)
    c.in-Some.ensures.value.0

pub returns-in-None-clause-row : goal.returns-in-None-clause-row
returns-in-None-clause-row c =
    ap (λ k. k.row) (kept-past _ _ _ _ c.index_mut.ensures.value c.get_as.ensures.cell ∙ c.pass.view_is)

pub returns-in-None-clause-found : goal.returns-in-None-clause-found
returns-in-None-clause-found c =
    kept-past _ _ _ _ c.index_mut.ensures.value c.get_as.ensures.cell ∙ c.pass.view_is

pub returns-in-None-clause-fits : goal.returns-in-None-clause-fits
returns-in-None-clause-fits c =
    let b = lies_beside (goal.at.returns-in-None-clause-fits c).After-len in omega arith

pub returns-in-Some-clause-row : goal.returns-in-Some-clause-row
returns-in-Some-clause-row c =
    names-set _ _ _ _ c.index_mut.ensures.value c.get_as.ensures.cell ∙ ap (λ k. k.row) c.pass.view_is

pub returns-in-Some-clause-found : goal.returns-in-Some-clause-found
returns-in-Some-clause-found c =
    let b = lies_beside (goal.at.returns-in-Some-clause-found c).After-len in
    front-more c.pass.inside.count c.pass.inside.notes.items _ _ c.pass.invariant (omega arith)
    c.in-Some.ensures.value.0
    ∙ ap (λ k. k.list ++ c.in-Some.entry.now ∷ []) c.pass.view_is

pub returns-in-Some-clause-fits : goal.returns-in-Some-clause-fits
returns-in-Some-clause-fits c =
    let b = lies_beside (goal.at.returns-in-Some-clause-fits c).After-len in omega arith
