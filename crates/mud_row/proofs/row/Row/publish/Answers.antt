use Rattle.std.proofs.Common.{◌++◌, ◌∷◌, [], ap, ◌∙◌, arith}
use Rattle.mud_row.proofs.Notes.{name_at, names-set, IsBeside, beside, kept-past, counted-kept, front-more}
use Rattle.mud_row.proofs.Notes.{counted-more}
use Rattle.mud_row.proofs.row.Row.publish.Goals.{After-len}
use Rattle.mud_row.proofs.row.Row.publish.Goals as goal

-- the notes of the pass match the cells
lies_beside : (c : After-len)
    → IsBeside c.self.inside.cells.items c.pass.inside.notes.items c.pass.inside.count c.args.pass.now c.args.self.now
lies_beside c = beside _ _ _ _ _ c.pass.view_is c.requires c.self.view_is c.pass.invariant

pub index-requires : goal.index-requires
index-requires c =
    let b = lies_beside (goal.at.index-requires c).After-len in omega arith

pub index_mut-requires : goal.index_mut-requires
index_mut-requires c =
    let b = lies_beside (goal.at.index_mut-requires c).After-len in omega arith

pub set_as-requires : goal.set_as-requires
set_as-requires c =
    let b = lies_beside (goal.at.set_as-requires c).After-len in
    name_at c.self.inside.cells.items _ c.pass.inside.count _ _ b.names (omega arith) c.index.ensures
    c.index_mut.ensures.value

pub overflow_add-pass : goal.overflow_add-pass
overflow_add-pass c =
    let b = lies_beside (goal.at.overflow_add-pass c).After-len in omega arith

pub invariant_of-pass : goal.invariant_of-pass
invariant_of-pass c =
    let b = lies_beside (goal.at.invariant_of-pass c).After-len in
    counted-more c.pass.inside.count c.pass.inside.notes.items _ _ c.pass.invariant (omega arith)
    c.in-Ok.ensures.value.0

pub invariant_of-pass-in-Err : goal.invariant_of-pass-in-Err
invariant_of-pass-in-Err c =
    counted-kept _ _ _ _ c.pass.invariant (kept-past _ _ _ _ c.index_mut.ensures.value c.set_as.ensures.cell)

pub returns-in-Ok-clause-row : goal.returns-in-Ok-clause-row
returns-in-Ok-clause-row c =
    names-set _ _ _ _ c.index_mut.ensures.value c.set_as.ensures.cell ∙ ap (λ k. k.row) c.pass.view_is

pub returns-in-Ok-clause-published : goal.returns-in-Ok-clause-published
returns-in-Ok-clause-published c =
    let b = lies_beside (goal.at.returns-in-Ok-clause-published c).After-len in (
      front-more c.pass.inside.count c.pass.inside.notes.items _ _ c.pass.invariant (omega arith)
          c.in-Ok.ensures.value.0 ∙ ap (λ k. k.list ++ c.args.entry.value ∷ []) c.pass.view_is,
      omega arith,
    )

pub returns-in-Ok-clause-fits : goal.returns-in-Ok-clause-fits
returns-in-Ok-clause-fits c =
    let b = lies_beside (goal.at.returns-in-Ok-clause-fits c).After-len in omega arith

pub returns-in-Err-clause-row : goal.returns-in-Err-clause-row
returns-in-Err-clause-row c =
    ap (λ k. k.row) (kept-past _ _ _ _ c.index_mut.ensures.value c.set_as.ensures.cell ∙ c.pass.view_is)

pub returns-in-Err-clause-refused : goal.returns-in-Err-clause-refused
returns-in-Err-clause-refused c = (
  kept-past _ _ _ _ c.index_mut.ensures.value c.set_as.ensures.cell ∙ c.pass.view_is,
  c.in-Err.ensures.value,
)

pub returns-in-Err-clause-fits : goal.returns-in-Err-clause-fits
returns-in-Err-clause-fits c =
    let b = lies_beside (goal.at.returns-in-Err-clause-fits c).After-len in omega arith
