-- Rooms that are marked from #0 on, against the exits.
use Rattle.std.proofs.Common.{◌≡◌, ◌≢◌, ℕ, ◌+◌, ◌<◌, ◌≤◌, ◌⊎◌, inl, inr, true, false, List, [], ◌∷◌, ◌++◌, length}
use Rattle.std.proofs.Common.{get_or, set, Option, Some, None, refl, sym, ◌∙◌, ap, subst, arith, ⊎_elim}
use Rattle.std.specs.Prelude.{Bool, IsTrue, Contains, ◌↔◌, nat_eq}
use Rattle.std.specs.Option.{option_map}
use Rattle.std.proofs.lemmas.Bool.{true≢false, cases_eq}
use Rattle.std.proofs.lemmas.List.{get_or-set_same, get_or-set_other, length-set}
use Rattle.std.proofs.lemmas.List.Elements.{Contains-push, Contains-push_cases, Contains-append_left}
use Rattle.std.proofs.lemmas.Map.Views.{Contains-from_any}
use Rattle.std.proofs.lemmas.Bool.{eqb-true}
use Rattle.mud_world.proofs.Records.{bool_cases}
use Rattle.mud_world.proofs.Listed.{arriving_law}
use Rattle.mud_world.specs.State.{State, is_room, passage_of, destination_of, arriving_of}
use Rattle.mud_world.specs.Sound.{IsSound}
use Rattle.mud_world.specs.declared.record.Passage.{Passage}
use Rattle.mud_roads.specs.declared.label.Step.{Step}
use Rattle.mud_roads.specs.Walks.{Walk}
use Rattle.mud_roads.specs.Passable.{passable, step_by, roads_of}
use Rattle.mud_roads.proofs.Roads.{road-at, road-to, passage-well, room-below}
use Rattle.mud_survey.specs.Ways.{IsLinked}
use Rattle.mud_survey.specs.inner.Marks.{mark_at, Marks, IsOpen, IsFlood}
use Rattle.mud_survey.proofs.Listing.{first-or, behind, in-front}

-- ---- marks
mark-same : (marks : List Bool) (n : ℕ) → n < length marks → IsTrue (mark_at (set marks n true) n)
mark-same marks n inside = get_or-set_same marks n true false inside

mark-other : (marks : List Bool) (n m : ℕ) → m ≢ n → mark_at (set marks n true) m ≡ mark_at marks m
mark-other marks n m other = get_or-set_other marks n m true false other

-- a mark stays
mark-stays : (marks : List Bool) (n m : ℕ) → n < length marks → IsTrue (mark_at marks m)
    → IsTrue (mark_at (set marks n true) m)
mark-stays marks n m inside is =
    ⊎_elim (λ (same : m ≡ n). subst (λ k. IsTrue (mark_at (set marks n true) k)) (sym same) (mark-same marks n inside))
    (λ (other : m ≢ n). mark-other marks n m other ∙ is) (cases_eq m n)

-- a mark is an old one, or the new one
mark-cases : (marks : List Bool) (n m : ℕ) → IsTrue (mark_at (set marks n true) m)
    → (m ≡ n) ⊎ IsTrue (mark_at marks m)
mark-cases marks n m is =
    ⊎_elim (λ (same : m ≡ n). inl same) (λ (other : m ≢ n). inr (sym (mark-other marks n m other) ∙ is)) (cases_eq m n)

-- ---- one exit
-- a passage is one
one-passage : (a b : Passage) → ◌≡◌ {A = Option Passage} (Some a) (Some b) → a ≡ b
one-passage a b e = cc

-- the ends of an open exit are those of its passage
free-ends : (w : State) (p x from to : ℕ) (a : Passage) → passage_of w x ≡ Some a → IsOpen w p x from to
    → (a.source ≡ from) × (a.destination ≡ to)
free-ends w p x from to a is free =
    let same : free.passage ≡ a = one-passage free.passage a (sym free.is ∙ is) in (
      ap (λ (q : Passage). q.source) (sym same) ∙ free.source,
      ap (λ (q : Passage). q.destination) (sym same) ∙ free.destination,
    )

-- an exit that needs no marking is followed
pub followed-denied : (w : State) (p exit : ℕ) (marks : List Bool) (waiting : List ℕ)
    → ((from to : ℕ) → IsOpen w p exit from to → IsTrue (mark_at marks to) → IsTrue (mark_at marks from))
    → (left : List ℕ) → IsFlood w p marks waiting (exit ∷ left) → IsFlood w p marks waiting left
followed-denied w p exit marks waiting done left flood = record {
  size = flood.size;
  linked = flood.linked;
  start = flood.start;
  followed = λ x from to free is.
      go x from to free is (flood.followed x from to free is);
}
  where
    go : (x from to : ℕ) → IsOpen w p x from to → IsTrue (mark_at marks to)
        → IsTrue (mark_at marks from) ⊎ Contains waiting to ⊎ Contains (exit ∷ left) x
        → IsTrue (mark_at marks from) ⊎ Contains waiting to ⊎ Contains left x
    go x from to free is (inl marked) = inl marked
    go x from to free is (inr (inl waits)) = inr (inl waits)
    go x from to free is (inr (inr among)) =
        ⊎_elim
        (λ (here : exit ≡ x). inl (done from to (subst (λ y. IsOpen w p y from to) (sym here) free) is))
        (λ (later : Contains left x). inr (inr later))
        (first-or exit left x among)

-- the exit is shut for the player
pub followed-shut : (w : State) (p exit : ℕ) (marks : List Bool) (waiting : List ℕ) → passable w p exit ≡ false
    → (left : List ℕ) → IsFlood w p marks waiting (exit ∷ left) → IsFlood w p marks waiting left
followed-shut w p exit marks waiting shut =
    followed-denied w p exit marks waiting (λ from to free is. absurd (true≢false (sym free.passes ∙ shut)))

-- it is no exit
pub followed-none : (w : State) (p exit : ℕ) (marks : List Bool) (waiting : List ℕ) → passage_of w exit ≡ None
    → (left : List ℕ) → IsFlood w p marks waiting (exit ∷ left) → IsFlood w p marks waiting left
followed-none w p exit marks waiting none =
    followed-denied w p exit marks waiting
    (λ from to free is.
    let bad : ◌≡◌ {A = Option Passage} None (Some free.passage) = sym none ∙ free.is in absurd (cc))

-- the room that it leaves is marked, or the one that it leads to is not
pub followed-marked : (w : State) (p exit : ℕ) (a : Passage) (marks : List Bool) (waiting : List ℕ)
    → passage_of w exit ≡ Some a
    → IsTrue (mark_at marks a.source) ⊎ (mark_at marks a.destination ≡ false)
    → (left : List ℕ) → IsFlood w p marks waiting (exit ∷ left) → IsFlood w p marks waiting left
followed-marked w p exit a marks waiting is either =
    followed-denied w p exit marks waiting
    (λ from to free marked.
    let ends = free-ends w p exit from to a is free in
    ⊎_elim (λ (source : IsTrue (mark_at marks a.source)). subst (λ n. IsTrue (mark_at marks n)) ends.0 source)
    (λ (clear : mark_at marks a.destination ≡ false).
    absurd (true≢false (sym marked ∙ ap (mark_at marks) (sym ends.1) ∙ clear)))
    either)

-- a walk one step longer
linked-by : (w : State) → IsSound w → (p exit : ℕ) (a : Passage) → passage_of w exit ≡ Some a
    → IsTrue (passable w p exit) → IsLinked (roads_of w p) a.destination 0 → IsLinked (roads_of w p) a.source 0
linked-by w sound p exit a is passes (ss, walk) =
    let step : Step = step_by exit a in
    (step ∷ ss, (road-to w sound p a.source step (is, passes), walk))

-- the room that an open exit leaves is marked now
pub followed-new : (w : State) → IsSound w → (p exit : ℕ) (a : Passage) (marks : List Bool) (waiting : List ℕ)
    → passage_of w exit ≡ Some a → IsTrue (passable w p exit) → IsTrue (mark_at marks a.destination)
    → (left : List ℕ) → IsFlood w p marks waiting (exit ∷ left)
    → IsFlood w p (set marks a.source true) (waiting ++ a.source ∷ []) left
followed-new w sound p exit a marks waiting is passes there left flood = record {
  size = length-set marks a.source true ∙ flood.size;
  linked = λ n marked.
      ⊎_elim
      (λ (here : n ≡ a.source). subst (λ m. IsLinked (roads_of w p) m 0) (sym here)
      (linked-by w sound p exit a is passes (flood.linked a.destination there)))
      (λ (before : IsTrue (mark_at marks n)). flood.linked n before)
      (mark-cases marks a.source n marked);
  start = mark-stays marks a.source 0 inside flood.start;
  followed = λ x from to free marked.
      ⊎_elim
      (λ (new : to ≡ a.source).
      inr (inl (subst (Contains (waiting ++ a.source ∷ [])) (sym new) (Contains-push waiting a.source))))
      (λ (before : IsTrue (mark_at marks to)). old x from to free (flood.followed x from to free before))
      (mark-cases marks a.source to marked);
}
  where
    inside : a.source < length marks
    inside =
        let below = room-below w sound a.source (passage-well w sound exit a is).0 in
        let size = flood.size in
        omega (arith, below, size)

    old : (x from to : ℕ) → IsOpen w p x from to
        → IsTrue (mark_at marks from) ⊎ Contains waiting to ⊎ Contains (exit ∷ left) x
        → IsTrue (mark_at (set marks a.source true) from) ⊎ Contains (waiting ++ a.source ∷ []) to ⊎ Contains left x
    old x from to free (inl marked) = inl (mark-stays marks a.source from inside marked)
    old x from to free (inr (inl waits)) = inr (inl (Contains-append_left waiting (a.source ∷ []) to waits))
    old x from to free (inr (inr among)) =
        ⊎_elim
        (λ (here : exit ≡ x).
        let ends = free-ends w p exit from to a is (subst (λ y. IsOpen w p y from to) (sym here) free) in
        inl (subst (λ n. IsTrue (mark_at (set marks a.source true) n)) ends.0 (mark-same marks a.source inside)))
        (λ (later : Contains left x). inr (inr later))
        (first-or exit left x among)

pub source-inside : (w : State) → IsSound w → (exit : ℕ) (a : Passage) → passage_of w exit ≡ Some a → a.source < w.next
source-inside w sound exit a is = room-below w sound a.source (passage-well w sound exit a is).0

-- ---- a room that waited is looked at: the exits that lead to it are left
pub taken : (w : State) → IsSound w → (p room : ℕ) (marks : List Bool) (waiting : List ℕ)
    → IsFlood w p marks (waiting ++ room ∷ []) [] → IsFlood w p marks waiting (arriving_of w room)
taken w sound p room marks waiting flood = record {
  size = flood.size;
  linked = flood.linked;
  start = flood.start;
  followed = λ x from to free is. go x from to free (flood.followed x from to free is);
}
  where
    arrives : (x from : ℕ) → IsOpen w p x from room → Contains (arriving_of w room) x
    arrives x from free =
        Contains-from_any {eq = nat_eq} (λ a b e. eqb-true a b e) x (arriving_of w room)
        (((arriving_law w sound room).0 x).1
        (ap (option_map (λ q. q.destination)) free.is ∙ ap (λ n. Some n) free.destination))

    go : (x from to : ℕ) → IsOpen w p x from to
        → IsTrue (mark_at marks from) ⊎ Contains (waiting ++ room ∷ []) to ⊎ Contains [] x
        → IsTrue (mark_at marks from) ⊎ Contains waiting to ⊎ Contains (arriving_of w room) x
    go x from to free (inl marked) = inl marked
    go x from to free (inr (inl waits)) =
        ⊎_elim (λ (before : Contains waiting to). inr (inl before))
        (λ (here : room ≡ to).
        inr (inr (arrives x from (subst (λ n. IsOpen w p x from n) (sym here) free))))
        (Contains-push_cases waiting room to waits)
    go x from to free (inr (inr (k, less, is))) = absurd (omega (arith, less))

-- ---- the end
-- where nothing waits, all from where a walk leads to #0 is marked
all-marked : (w : State) → IsSound w → (p : ℕ) (marks : List Bool) → IsFlood w p marks [] [] → (n : ℕ) (ss : List Step)
    → Walk (roads_of w p) n ss 0 → IsTrue (mark_at marks n)
all-marked w sound p marks flood n [] walk = subst (λ m. IsTrue (mark_at marks m)) (sym walk) flood.start
all-marked w sound p marks flood n (s ∷ ss) walk =
    let there = all-marked w sound p marks flood s.to ss walk.1 in
    let road = road-at w sound p n s walk.0 in
    let free : IsOpen w p s.exit n s.to = record {
      passage = record { source = n; destination = s.to; cost = s.cost };
      is = road.0;
      source = refl;
      destination = refl;
      passes = road.1;
    } in
    end (flood.followed s.exit n s.to free there)
  where
    end : IsTrue (mark_at marks n) ⊎ Contains [] s.to ⊎ Contains [] s.exit → IsTrue (mark_at marks n)
    end (inl marked) = marked
    end (inr (inl (k, less, is))) = absurd (omega (arith, less))
    end (inr (inr (k, less, is))) = absurd (omega (arith, less))

pub flooded : (w : State) → IsSound w → (p : ℕ) (marks : List Bool) → IsFlood w p marks [] []
    → Marks (λ room. IsLinked (roads_of w p) room 0) marks
flooded w sound p marks flood n = (
  λ marked. flood.linked n marked,
  λ (ss, walk). all-marked w sound p marks flood n ss walk,
)

-- the beginning: #0 alone is marked, and waits
pub begun : (w : State) → IsSound w → (p : ℕ) (clear : List Bool) → length clear ≡ w.next
    → ((n : ℕ) → mark_at clear n ≡ false) → IsFlood w p (set clear 0 true) (0 ∷ []) []
begun w sound p clear size none = record {
  size = length-set clear 0 true ∙ size;
  linked = λ n marked.
      ⊎_elim (λ (here : n ≡ 0). subst (λ m. IsLinked (roads_of w p) m 0) (sym here) ([], refl))
      (λ (before : IsTrue (mark_at clear n)). absurd (true≢false (sym before ∙ none n)))
      (mark-cases clear 0 n marked);
  start = mark-same clear 0 (let below = room-below w sound 0 sound.hall in omega (arith, below, size));
  followed = λ x from to free marked.
      ⊎_elim (λ (here : to ≡ 0). inr (inl (subst (Contains (0 ∷ [])) (sym here) (in-front 0 []))))
      (λ (before : IsTrue (mark_at clear to)). absurd (true≢false (sym before ∙ none to)))
      (mark-cases clear 0 to marked);
}
