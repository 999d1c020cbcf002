use Rattle.std.proofs.Common.{◌≡◌, ◌+◌, ◌∙◌, ℕ, List, Some, slice_get, sym, ap}
use Rattle.mud_chron.specs.Entry.{Entry}
use Rattle.mud_row.proofs.Lines.{entry_at-place}
use Rattle.mud_hall.proofs.Lists.{slice_get-drop}
use Rattle.mud_hall.proofs.entries.Made.desk.Goals as goal

pub returns-clause-desk : goal.returns-clause-desk
returns-clause-desk c =
    let n : ℕ = c.self.inside.loaded in
    let i : ℕ = c.args.i in
    let es : List Entry = c.self.inside.pass.list in
    let e : Entry = c.in-Some.entry.now in
    let there : slice_get es (n + i) ≡ Some e = sym (entry_at-place es (n + i)) ∙ sym c.in-Some.ensures.entry in (
      e,
      ap (λ (xs : List Entry). slice_get xs i) (sym c.self.view_is) ∙ slice_get-drop es n i e there,
      c.desk.ensures.desk,
    )
