-- One thread that takes the first waiting room each time finishes each room once.
use Rattle.std.proofs.Common.{◌≡◌, ℕ, ◌+◌, ◌<◌, inl, inr, Bool, true, false, cond, List, [], ◌∷◌, length, set}
use Rattle.std.proofs.Common.{refl, sym, ◌∙◌, ap, subst, arith, get_or-set_same, get_or-set_other, length-set}
use Rattle.std.specs.Prelude.{Contains, count_by}
use Rattle.std.proofs.lemmas.Bool.{cases_eq}
use Rattle.std.proofs.lemmas.List.Sums.{sum_by-set}
use Rattle.mud_roads.specs.declared.label.Label.{Label}
use Rattle.mud_roads.specs.declared.label.Step.{Step}
use Rattle.mud_roads.specs.Walks.{Roads, AtMost, after}
use Rattle.mud_search.specs.declared.slot.Slot.{Slot}
use Rattle.mud_search.specs.declared.slot.Slot.TheVariants.{Unknown, Waiting, Held, Finished}
use Rattle.mud_search.specs.declared.task.Task.{Task}
use Rattle.mud_search.specs.Slots.{label_of}
use Rattle.mud_search.specs.Tasks.{IsFirst, IsDone}
use Rattle.mud_search.specs.inner.Boards.{slot_at, label_at, falls, offer, offers, settle, IsBoardOf, Below}
use Rattle.mud_search.specs.inner.Once.{IsInOrder, is_unfinished}
use Rattle.mud_search.proofs.Inside.{AreWithin}
use Rattle.mud_search.proofs.Faithful.{below-from_test, follows-offers, labelled-within, some-inj, here, there}

-- ---- the order

-- the first room was finished
module _ (old new : ℕ → ℕ → Slot) (t : Task) (steps : List Step) (order : IsInOrder old) (first : IsFirst old t)
    (done : IsDone old new t steps) where
  -- no finished room of its member has a greater label than its own
  finished-before : (room : ℕ) (l : Label) → new t.member room ≡ Finished l → AtMost l t.label
  finished-before room l e =
      elim (cases_eq room t.room) [
        | inl same ↦
            let at : Finished t.label ≡ Finished l = sym done.finished ∙ ap (new t.member) (sym same) ∙ e in
            let P : Label → Type 0 = λ k. AtMost k t.label in
            subst P (some-inj t.label l (ap label_of at)) (omega arith, λ x. omega arith)
        | inr other ↦
            elim (done.fell room other) [
              | inl still ↦ order.sorted t.member room t.room l t.label (sym still ∙ e) first.is_waiting
              | inr fell ↦
                  let bad : Waiting (after 1 t.label fell.0) ≡ Finished l = sym fell.3 ∙ e in
                  absurd (cc)
            ]
      ]

  -- and no waiting one a lesser label
  waiting-after : (room : ℕ) (k : Label) → new t.member room ≡ Waiting k → AtMost t.label k
  waiting-after room k e =
      elim (cases_eq room t.room) [
        | inl same ↦
            let bad : Finished t.label ≡ Waiting k = sym done.finished ∙ ap (new t.member) (sym same) ∙ e in
            absurd (cc)
        | inr other ↦
            elim (done.fell room other) [
              | inl still ↦ (first.before t.member room k (sym still ∙ e)).0
              | inr fell ↦
                  let at : Waiting (after 1 t.label fell.0) ≡ Waiting k = sym fell.3 ∙ e in
                  let P : Label → Type 0 = λ j. AtMost t.label j in
                  subst P (some-inj (after 1 t.label fell.0) k (ap label_of at)) (omega arith, λ x. omega arith)
            ]
      ]

  still-unheld : (room : ℕ) (l : Label) → new t.member room ≡ Held l → ⊥
  still-unheld room l e =
      elim (cases_eq room t.room) [
        | inl same ↦
            let bad : Finished t.label ≡ Held l = sym done.finished ∙ ap (new t.member) (sym same) ∙ e in
            absurd (cc)
        | inr other ↦
            elim (done.fell room other) [
              | inl still ↦ order.none_held t.member room l (sym still ∙ e)
              | inr fell ↦ let bad : Waiting (after 1 t.label fell.0) ≡ Held l = sym fell.3 ∙ e in absurd (cc)
            ]
      ]

  at_most-trans : (a b c : Label) → AtMost a b → AtMost b c → AtMost a c
  at_most-trans a b c p q = (omega arith, λ e. omega arith)

  -- the rooms stay in order
  pub order-done : IsInOrder new
  order-done = record {
    none_held = λ m room l e.
        elim (cases_eq m t.member) [
          | inl same ↦ still-unheld room l (ap (λ (n : ℕ). new n room) (sym same) ∙ e)
          | inr other ↦ order.none_held m room l (sym (done.others m room other) ∙ e)
        ];
    sorted = λ m room next l k e d.
        elim (cases_eq m t.member) [
          | inl same ↦
              at_most-trans l t.label k (finished-before room l (ap (λ (n : ℕ). new n room) (sym same) ∙ e))
              (waiting-after next k (ap (λ (n : ℕ). new n next) (sym same) ∙ d))
          | inr other ↦
              order.sorted m room next l k (sym (done.others m room other) ∙ e) (sym (done.others m next other) ∙ d)
        ];
  }

-- ---- the count

-- no finished room has a greater label
abbrev AllFinishedBefore : List Slot → Label → Type 0
AllFinishedBefore slots l = (room : ℕ) (k : Label) → slot_at slots room ≡ Finished k → AtMost k l

-- a label that falls is not a finished one
unfinished-there : (l : Label) (s : Step) (v : Slot) → ((k : Label) → v ≡ Finished k → AtMost k l)
    → falls (after 1 l s) (label_of v) ≡ true → is_unfinished v ≡ true
unfinished-there l s Unknown before lower = refl
unfinished-there l s (Waiting k) before lower = refl
unfinished-there l s (Held k) before lower = refl
unfinished-there l s (Finished k) before lower =
    absurd (clash l s k (before k refl) (below-from_test (after 1 l s) k lower))
  where
    clash : (l : Label) (s : Step) (k : Label) → AtMost k l → Below (after 1 l s) k → ⊥
    clash l s k p b = let same : k.cost ≡ l.cost = omega (arith, p.0, b.0) in omega (arith, p.1 same, b.1)

-- an offer neither finishes a room nor opens a finished one
unfinished-offered : (l : Label) (s : Step) (slots : List Slot) → s.to < length slots → AllFinishedBefore slots l
    → (count_by is_unfinished (offer l s slots) ≡ count_by is_unfinished slots)
    × (length (offer l s slots) ≡ length slots) × AllFinishedBefore (offer l s slots) l
unfinished-offered l s slots within before = go (falls (after 1 l s) (label_at slots s.to)) refl
  where
    go : (b : Bool) → falls (after 1 l s) (label_at slots s.to) ≡ b
        → (count_by is_unfinished (offer l s slots) ≡ count_by is_unfinished slots)
        × (length (offer l s slots) ≡ length slots) × AllFinishedBefore (offer l s slots) l
    go true lower =
        let v : Slot = Waiting (after 1 l s) in
        let f : Slot → ℕ = λ x. cond (is_unfinished x) 1 0 in
        let was : f (slot_at slots s.to) ≡ 1 =
        ap (λ b. cond b 1 0) (unfinished-there l s (slot_at slots s.to) (before s.to) lower) in
        let now : f v ≡ 1 = refl in
        let count : count_by is_unfinished (set slots s.to v) ≡ count_by is_unfinished slots =
        omega (arith, sum_by-set f slots s.to v Unknown within, was, now) in
        let those : AllFinishedBefore (set slots s.to v) l = λ room k e.
        elim (cases_eq room s.to) [
          | inl same ↦
              let bad : v ≡ Finished k =
              sym (get_or-set_same slots s.to v Unknown within) ∙ ap (slot_at (set slots s.to v)) (sym same) ∙ e in
              absurd (cc)
          | inr other ↦ before room k (sym (get_or-set_other slots s.to room v Unknown other) ∙ e)
        ] in
        rw lower (count, length-set slots s.to v, those)
    go false higher = rw higher (refl, refl, before)

unfinished-offers : (l : Label) (ss : List Step) (slots : List Slot)
    → ((s : Step) → Contains ss s → s.to < length slots) → AllFinishedBefore slots l
    → count_by is_unfinished (offers l ss slots) ≡ count_by is_unfinished slots
unfinished-offers l [] slots inside before = refl
unfinished-offers l (s ∷ ss) slots inside before =
    let one = unfinished-offered l s slots (inside s (here s ss)) before in
    unfinished-offers l ss (offer l s slots) (λ t c. rw one.1 (inside t (there s ss t c))) one.2 ∙ one.0

-- so finishing a waiting room leaves one room less unfinished
pub unfinished-settled : (roads : Roads) (from rooms : ℕ) → AreWithin roads rooms → (room : ℕ) (l : Label)
    → (steps : List Step) → steps ≡ roads room → (slots : List Slot) → IsBoardOf roads from rooms slots
    → slot_at slots room ≡ Waiting l → ((q : ℕ) (k : Label) → slot_at slots q ≡ Finished k → AtMost k l)
    → count_by is_unfinished (settle room l steps slots) + 1 ≡ count_by is_unfinished slots
unfinished-settled roads from rooms inside room l steps are slots sound waits before =
    let P : Step → List Step → Type 0 = λ s ss. Contains ss s in
    let those : (s : Step) → Contains steps s → Contains (roads room) s = λ s c. subst (P s) are c in
    let all = follows-offers roads from rooms inside room l steps those slots sound (ap label_of waits) in
    let within : room < length (offers l steps slots) =
    omega (arith, sound.whole, all.0.sound.whole, labelled-within slots room l (ap label_of waits)) in
    let f : Slot → ℕ = λ x. cond (is_unfinished x) 1 0 in
    let was : f (slot_at (offers l steps slots) room) ≡ 1 = ap f (all.0.kept ∙ waits) in
    let now : f (Finished l) ≡ 0 = refl in
    let same : count_by is_unfinished (offers l steps slots) ≡ count_by is_unfinished slots =
    unfinished-offers l steps slots (λ s c. omega (arith, sound.whole, (inside room s (those s c)).0)) before in
    omega (arith, sum_by-set f (offers l steps slots) room (Finished l) Unknown within, was, now, same)
