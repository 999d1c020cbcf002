use Rattle.std.proofs.Common.{◌≡◌, ◌∙◌, sym, ap, refl, arith, slice_get, slice_set, Some, None}
use Rattle.std.specs.Prelude.{nat_eq, vec_len}
use Rattle.std.specs.Option.{option_and_then}
use Rattle.std.specs.Map.{lookup, remove_entry}
use Rattle.std.proofs.lemmas.Bool.{false≢true}
use Rattle.std.proofs.lemmas.Option.{slice_get_read}
use Rattle.mud_world.specs.inner.Slots.{entries_of}
use Rattle.mud_world.proofs.Numbered.{number-lookup, emptied, none-past, past-same}
use Rattle.mud_world.proofs.slots.Slots.take.Goals as goal
use Rattle.mud_world.proofs.slots.Slots.take.Goals.{in-Some, in-None}

pub returns-clause-record : goal.returns-clause-record
returns-clause-record c =
    let was = c.self.inside.slots.items in
    let k = c.args.number in
    elim c.match-get_mut.branch [
      | in-Some w ↦
          let there : slice_get was k ≡ Some w.in-Some.slot.now =
          slice_get_read was (vec_len c.self.inside.slots) k w.in-Some.slot.now (omega arith)
          (w.in-Some.ensures.variant.0 refl) w.in-Some.ensures.value in
          w.result-is ∙ w.take.ensures.value ∙ sym (number-lookup k was ∙ ap (option_and_then (λ v. v)) there)
          ∙ ap (lookup (nat_eq k)) c.self.view_is
      | in-None w ↦
          let past : slice_get was k ≡ None =
          none-past was k (λ less. false≢true (w.in-None.ensures.variant.1 (omega (arith, less)))) in
          w.result-is ∙ sym (number-lookup k was ∙ ap (option_and_then (λ v. v)) past)
          ∙ ap (lookup (nat_eq k)) c.self.view_is
    ]

pub returns-clause-rest : goal.returns-clause-rest
returns-clause-rest c =
    let was = c.self.inside.slots.items in
    let k = c.args.number in
    elim c.match-get_mut.branch [
      | in-Some w ↦
          ap (λ i. entries_of i.slots.items) w.self-inside-is
          ∙ ap (λ v. entries_of (slice_set was k v)) w.take.ensures.after
          ∙ sym (emptied k was) ∙ ap (remove_entry (nat_eq k)) c.self.view_is
      | in-None w ↦
          let past : slice_get was k ≡ None =
          none-past was k (λ less. false≢true (w.in-None.ensures.variant.1 (omega (arith, less)))) in
          ap (λ i. entries_of i.slots.items) w.self-inside-is
          ∙ sym (emptied k was ∙ ap entries_of (past-same was k None past))
          ∙ ap (remove_entry (nat_eq k)) c.self.view_is
    ]
