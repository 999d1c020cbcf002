use Rattle.std.proofs.Common.{◌≡◌, ◌∙◌, sym, ap, refl, arith, slice_get, slice_set, Some, None}
use Rattle.std.proofs.lemmas.Bool.{false≢true}
use Rattle.std.proofs.lemmas.Option.{slice_get_read}
use Rattle.std.specs.Prelude.{vec_len}
use Rattle.mud_world.specs.inner.Edits.{edit as edit_record}
use Rattle.mud_world.specs.inner.Slots.{entries_of, edited}
use Rattle.mud_world.proofs.Numbered.{slot-edit, no-edit, none-past}
use Rattle.mud_world.proofs.slots.Slots.edit.Goals as goal
use Rattle.mud_world.proofs.slots.Slots.edit.Goals.{in-Some, in_default+in-Names-1, in_default+in-Key+in-Some-1}
use Rattle.mud_world.proofs.slots.Slots.edit.Goals.{in_default+in-Key+in-None-1, in_default+in-Place-1}

pub returns : goal.returns
returns c =
    let was = c.self.inside.slots.items in
    let k = c.args.number in
    let f = edited c.args.what in
    elim c.match-get_mut.branch [
      | in-Some w ↦
          let there : slice_get was k ≡ Some w.in-Some.slot.now =
          slice_get_read was (vec_len c.self.inside.slots) k w.in-Some.slot.now (omega arith)
          (w.in-Some.ensures.variant.0 refl) w.in-Some.ensures.value in
          ap (λ i. entries_of i.slots.items) w.self-inside-is
          ∙ ap (λ v. entries_of (slice_set was k v)) w.edit_slot.ensures
          ∙ sym (slot-edit k f was w.in-Some.slot.now there)
          ∙ ap (edit_record k f) c.self.view_is
      | in_default+in-Names-1 w ↦
          let past : slice_get was k ≡ None =
          none-past was k (λ less. false≢true (w.in_default.ensures.variant.1 (omega (arith, less)))) in
          ap (λ i. entries_of i.slots.items) w.self-inside-is ∙ sym (no-edit k f was past)
          ∙ ap (edit_record k f) c.self.view_is
      | in_default+in-Key+in-Some-1 w ↦
          let past : slice_get was k ≡ None =
          none-past was k (λ less. false≢true (w.in_default.ensures.variant.1 (omega (arith, less)))) in
          ap (λ i. entries_of i.slots.items) w.self-inside-is ∙ sym (no-edit k f was past)
          ∙ ap (edit_record k f) c.self.view_is
      | in_default+in-Key+in-None-1 w ↦
          let past : slice_get was k ≡ None =
          none-past was k (λ less. false≢true (w.in_default.ensures.variant.1 (omega (arith, less)))) in
          ap (λ i. entries_of i.slots.items) w.self-inside-is ∙ sym (no-edit k f was past)
          ∙ ap (edit_record k f) c.self.view_is
      | in_default+in-Place-1 w ↦
          let past : slice_get was k ≡ None =
          none-past was k (λ less. false≢true (w.in_default.ensures.variant.1 (omega (arith, less)))) in
          ap (λ i. entries_of i.slots.items) w.self-inside-is ∙ sym (no-edit k f was past)
          ∙ ap (edit_record k f) c.self.view_is
    ]
