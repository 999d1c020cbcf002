use Rattle.std.proofs.Common.{ℕ, ◌+◌, List, ap, subst, sym, ◌∙◌, arith}
use Rattle.std.proofs.lemmas.List.{get_or_past}
use Rattle.mud_roads.specs.declared.label.Label.{Label}
use Rattle.mud_search.specs.declared.slot.Slot.{Slot}
use Rattle.mud_search.specs.declared.slot.Slot.TheVariants.{Unknown}
use Rattle.mud_search.specs.Slots.{label_of}
use Rattle.mud_search.specs.inner.Boards.{label_at}
use Rattle.mud_search.specs.Least.{AreLabelsBelow}
use Rattle.mud_search.proofs.Below.{below-skip, below-push, below-past}
use Rattle.mud_search.proofs.board.Board.labels_below.Goals as goal
use Rattle.mud_search.proofs.board.Board.labels_below.Goals.{in-Some+in_ok-push, in_default}

pub loop-room-preserved : goal.loop-room-preserved
loop-room-preserved c =
    let labels = label_at c.as_slice-slots.result.now in
    let l = c.loop-room in
    let P : List (ℕ × Label) → Type 0 = λ found. AreLabelsBelow labels (l.room + 1) found in
    elim c.match-label.branch [
      | in-Some+in_ok-push w ↦
          subst P (sym (ap (λ v. v.items) w.found-is ∙ w.in_ok-push.ensures.items))
          (below-push labels l.room w.in-Some.label l.found.items l.invariant
          (sym c.label.ensures ∙ w.in-Some.is))
      | in_default w ↦
          subst P (sym (ap (λ v. v.items) w.found-is))
          (below-skip labels l.room l.found.items l.invariant (sym c.label.ensures ∙ w.in_default.is))
    ]

pub returns : goal.returns
returns c =
    let slots = c.as_slice-slots.result.now in
    let found = c.loop-room.found.items in
    let P : List Slot → Type 0 = λ ss. AreLabelsBelow (label_at ss) c.args.next found in
    subst P (c.as_slice-slots.ensures.value ∙ c.self.view_is)
    (below-past (label_at slots) c.loop-room.room c.args.next found (omega arith)
    (λ room past less. ap label_of (get_or_past slots room Unknown (omega arith))) c.loop-room.invariant)
