use Rattle.std.proofs.Common.{◌-◌, ◌≡◌, slice_get, length, Some, sym, ap, ◌∙◌, arith}
use Rattle.std.specs.Option.{option_copied}
use Rattle.mud_row.specs.inner.Known.{known_front}
use Rattle.mud_row.proofs.Notes.{name_at, IsBeside, beside, kept-same, counted-kept, known_at, stands_at, read_again}
use Rattle.mud_row.proofs.Notes.{entry_at_place, found_place}
use Rattle.mud_row.proofs.row.Row.entry.Goals.{After-self}
use Rattle.mud_row.proofs.row.Row.entry.Goals as goal

-- the notes of the pass match the cells
lies_beside : (c : After-self)
    → IsBeside c.self.inside.cells.items c.pass.inside.notes.items c.pass.inside.count c.args.pass.now c.args.self.now
lies_beside c = beside _ _ _ _ _ c.pass.view_is c.requires c.self.view_is c.pass.invariant

pub index-requires : goal.index-requires
index-requires c =
    let b = lies_beside (goal.at.index-requires c).After-self in omega arith

pub index_mut-requires : goal.index_mut-requires
index_mut-requires c =
    let b = lies_beside (goal.at.index_mut-requires c).After-self in omega arith

pub get_as-requires : goal.get_as-requires
get_as-requires c =
    let b = lies_beside (goal.at.get_as-requires c).After-self in
    name_at c.self.inside.cells.items _ (c.args.n - 1) _ _ b.names (omega arith) c.index.ensures
    c.index_mut.ensures.value

-- the note at the place knows the entry with that number
noted_at : (c : goal.After-pass-1)
    → slice_get (known_front c.pass.inside.count c.pass.inside.notes.items) (c.args.n - 1)
    ≡ c.index_mut.result.now.known
noted_at c =
    known_at c.pass.inside.count c.pass.inside.notes.items (c.args.n - 1) c.index_mut.result.now c.pass.invariant.1
    (omega arith) c.index_mut.ensures.value

-- the cell gives that entry, and the note learns nothing new
seen_again : (c : goal.After-pass-1)
    → (option_copied c.get_as.result ≡ c.index_mut.result.now.known)
    × (c.get_as.new.note.known ≡ c.index_mut.result.now.known)
seen_again c =
    let some =
    stands_at (known_front c.pass.inside.count c.pass.inside.notes.items) (c.args.n - 1)
    (omega (arith, c.pass.invariant.1)) in
    read_again c.index_mut.result.now.known c.get_as.new.note.known some.0 c.get_as.result
    (sym (noted_at c) ∙ some.1) c.get_as.ensures.value

pub invariant_of-pass : goal.invariant_of-pass
invariant_of-pass c =
    counted-kept _ _ _ _ c.pass.invariant
    (kept-same _ _ _ _ _ c.index_mut.ensures.value c.get_as.ensures.cell (seen_again c).1)

pub returns-clause-same : goal.returns-clause-same
returns-clause-same c =
    kept-same _ _ _ _ _ c.index_mut.ensures.value c.get_as.ensures.cell (seen_again c).1 ∙ c.pass.view_is

pub returns-clause-entry : goal.returns-clause-entry
returns-clause-entry c =
    (seen_again c).0
    ∙ (sym (noted_at c)
    ∙ (ap (λ k. slice_get k.list (c.args.n - 1)) c.pass.view_is
    ∙ sym (entry_at_place c.args.pass.now.list c.args.n (omega arith))))

pub returns-clause-place : goal.returns-clause-place
returns-clause-place c =
    let b = lies_beside (goal.at.returns-clause-place c).After-self in
    let some =
    stands_at (known_front c.pass.inside.count c.pass.inside.notes.items) (c.args.n - 1)
    (omega (arith, c.pass.invariant.1)) in
    let found : option_copied c.get_as.result ≡ Some some.0 = (seen_again c).0 ∙ (sym (noted_at c) ∙ some.1) in
    found_place c.get_as.result some.0 c.args.n (length c.args.pass.now.list) found (omega arith) (omega arith)
