-- The remaining work decreases.
use Rattle.std.proofs.Common.{◌≡◌, ℕ, ◌+◌, ◌*◌, ◌<◌, ◌≤◌, Bool, true, false, List, [], ◌∷◌, length, set, Some, refl}
use Rattle.std.proofs.Common.{sym, ◌∙◌, ap, subst, arith}
use Rattle.std.specs.Prelude.{Contains, sum_by}
use Rattle.std.proofs.lemmas.List.Sums.{sum_by-set}
use Rattle.mud_world.specs.declared.limits.TheConstants.{NUMBERS, MOST_COST}
use Rattle.mud_roads.specs.declared.label.Label.{Label}
use Rattle.mud_roads.specs.declared.label.Step.{Step}
use Rattle.mud_roads.specs.Walks.{Roads, after}
use Rattle.mud_search.specs.declared.slot.Slot.{Slot}
use Rattle.mud_search.specs.declared.slot.Slot.TheVariants.{Unknown, Waiting, Held, Finished}
use Rattle.mud_search.specs.inner.Boards.{slot_at, label_at, falls, offer, offers, settle, IsBoardOf, weight, potential}
use Rattle.mud_search.specs.inner.Boards.{board_of, Below}
use Rattle.mud_search.specs.Slots.{label_of}
use Rattle.mud_search.proofs.Inside.{AreWithin}
use Rattle.mud_search.proofs.Faithful.{below-from_test, faithful-lowered, label-bound, label-set_same, follows-offered}
use Rattle.mud_search.proofs.Faithful.{follows-offers, here, there}

-- a lighter slot makes the sum lighter
pub weight-set : (slots : List Slot) (d : ℕ) (v : Slot) → d < length slots → weight v ≤ weight (slot_at slots d)
    → sum_by weight (set slots d v) ≤ sum_by weight slots
weight-set slots d v h low = omega (arith, sum_by-set weight slots d v Unknown h)

rank-falls : (a k : Label) → a.exits < NUMBERS → Below a k
    → 3 * (a.cost * NUMBERS + a.exits) + 2 ≤ 3 * (k.cost * NUMBERS + k.exits)
rank-falls a k small b = grind arith

-- a lesser label is lighter
weight-lower : (v : Slot) (a : Label) → a.exits < NUMBERS → a.cost ≤ MOST_COST * a.exits
    → ((k : Label) → label_of v ≡ Some k → Below a k) → weight (Waiting a) ≤ weight v
weight-lower Unknown a small dear less = omega arith
weight-lower (Waiting k) a small dear less = omega (arith, rank-falls a k small (less k refl))
weight-lower (Held k) a small dear less = omega (arith, rank-falls a k small (less k refl))
weight-lower (Finished k) a small dear less = omega (arith, rank-falls a k small (less k refl))

weight-offered : (roads : Roads) (from rooms : ℕ) (slots : List Slot) → IsBoardOf roads from rooms slots
    → AreWithin roads rooms → rooms ≤ NUMBERS
    → (by : ℕ) (l : Label) (s : Step) → label_at slots by ≡ Some l → Contains (roads by) s
    → sum_by weight (offer l s slots) ≤ sum_by weight slots
weight-offered roads from rooms slots sound inside few by l s was c =
    go (falls (after 1 l s) (label_at slots s.to)) refl
  where
    go : (b : Bool) → falls (after 1 l s) (label_at slots s.to) ≡ b
        → sum_by weight (offer l s slots) ≤ sum_by weight slots
    go true lower =
        let h : s.to < rooms = (inside by s c).0 in
        let within : s.to < length slots = omega (arith, sound.whole) in
        let less : (k : Label) → label_at slots s.to ≡ Some k → Below (after 1 l s) k = λ k e.
        below-from_test (after 1 l s) k (sym (ap (falls (after 1 l s)) e) ∙ lower) in
        let next : IsBoardOf roads from rooms (set slots s.to (Waiting (after 1 l s))) =
        faithful-lowered roads from rooms slots sound inside by l s was c less in
        let bound = label-bound roads from rooms (set slots s.to (Waiting (after 1 l s))) next inside s.to (after 1 l s)
        (label-set_same slots s.to (Waiting (after 1 l s)) within) in
        rw lower (weight-set slots s.to (Waiting (after 1 l s)) within
        (weight-lower (slot_at slots s.to) (after 1 l s) (omega (arith, bound.0)) bound.1 less))
    go false higher = rw higher (omega arith)

pub weight-offers : (roads : Roads) (from rooms : ℕ) → AreWithin roads rooms → rooms ≤ NUMBERS → (by : ℕ) (l : Label)
    → (ss : List Step) → ((s : Step) → Contains ss s → Contains (roads by) s)
    → (slots : List Slot) → IsBoardOf roads from rooms slots → label_at slots by ≡ Some l
    → sum_by weight (offers l ss slots) ≤ sum_by weight slots
weight-offers roads from rooms inside few by l [] those slots sound was = omega arith
weight-offers roads from rooms inside few by l (s ∷ ss) those slots sound was =
    let one = follows-offered roads from rooms slots sound inside by l s was (those s (here s ss)) in
    omega (
      arith,
      weight-offered roads from rooms slots sound inside few by l s was (those s (here s ss)),
      weight-offers roads from rooms inside few by l ss (λ t c. those t (there s ss t c))
          (offer l s slots) one.0.sound one.0.still,
    )

-- finishing a room that was not finished makes the sum lighter
pub weight-settled_left : (roads : Roads) (from rooms : ℕ) → AreWithin roads rooms
    → rooms ≤ NUMBERS → (room : ℕ) (l : Label)
    → (steps : List Step) → steps ≡ roads room
    → (slots : List Slot) → IsBoardOf roads from rooms slots → label_at slots room ≡ Some l
    → weight (Finished l) < weight (slot_at slots room) → room < rooms
    → sum_by weight (settle room l steps slots) < sum_by weight slots
weight-settled_left roads from rooms inside few room l steps are slots sound was heavy h =
    let P : Step → List Step → Type 0 = λ s ss. Contains ss s in
    let all = follows-offers roads from rooms inside room l steps (λ s c. subst (P s) are c) slots sound was in
    let within : room < length (offers l steps slots) = omega (arith, all.0.sound.whole) in
    let same : weight (slot_at (offers l steps slots) room) ≡ weight (slot_at slots room) = ap weight all.0.kept in
    omega (
      arith,
      weight-offers roads from rooms inside few room l steps (λ s c. subst (P s) are c) slots sound was,
      sum_by-set weight (offers l steps slots) room (Finished l) Unknown within,
      same,
    )

pub potential-set_less : (boards : List (List Slot)) (m : ℕ) (b : List Slot) → m < length boards
    → sum_by weight b < sum_by weight (board_of boards m) → potential (set boards m b) < potential boards
potential-set_less boards m b h low = omega (arith, sum_by-set (sum_by weight) boards m b [] h)
