-- The roads of a player are the steps of the exits that are open to the player, sorted by number.
use Rattle.std.proofs.Common.{◌≡◌, ℕ, zero, suc, ◌+◌, ◌<◌, ◌≤◌, ◌⊎◌, inl, inr, true, false, cond, List, [], ◌∷◌, Option}
use Rattle.std.proofs.Common.{Some, None, refl, sym, ◌∙◌, ap, subst, arith, ⊎_elim}
use Rattle.std.specs.Prelude.{nat_eq, IsTrue, Contains, All, AllPairs, ◌↔◌}
use Rattle.std.specs.Option.{option_map, option_map_or, option_and_then}
use Rattle.std.specs.List.{list_any, filter_map, cons_option}
use Rattle.std.proofs.lemmas.Bool.{eqb-true, eq-eqb, true≢false, or_cases, or_left, or_right}
use Rattle.std.proofs.lemmas.List.Elements.{All-cons}
use Rattle.std.proofs.lemmas.List.Kept.{AllPairs-cons}
use Rattle.mud_world.specs.declared.limits.TheConstants.{MOST_COST}
use Rattle.mud_world.specs.declared.record.Passage.{Passage}
use Rattle.mud_world.specs.declared.record.Kind.{Kind}
use Rattle.mud_world.specs.declared.record.Kind.TheVariants.{Room, Exit, Thing, Player}
use Rattle.mud_world.specs.Kinds.{kind_place, kind_passage, is_room_kind, is_player_kind}
use Rattle.mud_world.specs.Numbers.{IsRisingFrom}
use Rattle.mud_world.specs.State.{State, record_at, is_room, is_player, place_of, passage_of, source_of, leaving_of}
use Rattle.mud_world.specs.Sound.{IsSound, IsPlacedWell}
use Rattle.mud_world.proofs.Records.{record_cases, bool_cases, in_bounds}
use Rattle.mud_world.proofs.Listed.{leaving_law}
use Rattle.mud_roads.specs.declared.label.Step.{Step}
use Rattle.mud_roads.specs.Passable.{passable, step_by, open_step, roads_of, Knowledge, IsTraveller}
use Rattle.mud_roads.specs.Laws.{IsRoad}

-- ---- the steps of a list of numbers
pub passage_cases : {P : Type 0} (v : Option Passage) → (v ≡ None → P) → ((a : Passage) → v ≡ Some a → P) → P
passage_cases None f g = f refl
passage_cases (Some a) f g = g a refl

step_cases : {P : Type 0} (v : Option Step) → (v ≡ None → P) → ((s : Step) → v ≡ Some s → P) → P
step_cases None f g = f refl
step_cases (Some s) f g = g s refl

-- a number of the list gives the step
abbrev IsGiven : (ℕ → Option Step) → List ℕ → Step → Type 0
IsGiven f xs s = (n : ℕ) × IsTrue (list_any (nat_eq n) xs) × (f n ≡ Some s)

contains-cases : (t s : Step) (xs : List Step) → Contains (t ∷ xs) s → (t ≡ s) ⊎ Contains xs s
contains-cases t s xs (zero, lt, at) = inl at
contains-cases t s xs (suc i, lt, at) = inr (i, omega (arith, lt), at)

given : (f : ℕ → Option Step) (xs : List ℕ) (s : Step) → Contains (filter_map f xs) s → IsGiven f xs s
given f [] s (i, lt, at) = absurd (omega (arith, lt))
given f (x ∷ xs) s c =
    let more : IsGiven f xs s → IsGiven f (x ∷ xs) s =
    λ rest. (rest.0, or_right (nat_eq rest.0 x) (list_any (nat_eq rest.0) xs) rest.1, rest.2) in
    let again : Contains (filter_map f xs) s → IsGiven f xs s = λ rest. given f xs s rest in
    step_cases (f x)
    (λ e. more (again (subst (λ (v : Option Step). Contains (cons_option v (filter_map f xs)) s) e c)))
    (λ t e.
    ⊎_elim
    (λ (here : t ≡ s). (x, or_left (nat_eq x x) (list_any (nat_eq x) xs) (eq-eqb x x refl), e ∙ ap (λ v. Some v) here))
    (λ later. more (again later))
    (contains-cases t s (filter_map f xs)
    (subst (λ (v : Option Step). Contains (cons_option v (filter_map f xs)) s) e c)))

later-contains : (t s : Step) (xs : List Step) → Contains xs s → Contains (t ∷ xs) s
later-contains t s xs (i, lt, at) = (suc i, omega (arith, lt), at)

gives : (f : ℕ → Option Step) (xs : List ℕ) (s : Step) (n : ℕ) → list_any (nat_eq n) xs ≡ true → f n ≡ Some s
    → Contains (filter_map f xs) s
gives f [] s n among is = absurd (true≢false (sym among))
gives f (x ∷ xs) s n among is =
    let again : list_any (nat_eq n) xs ≡ true → Contains (filter_map f xs) s = λ rest. gives f xs s n rest is in
    ⊎_elim
    (λ (here : nat_eq n x ≡ true).
    let first : f x ≡ Some s = ap f (sym (eqb-true n x here)) ∙ is in
    subst (λ (v : Option Step). Contains (cons_option v (filter_map f xs)) s) (sym first) (0, omega arith, refl))
    (λ later.
    step_cases (f x)
    (λ e. subst (λ (v : Option Step). Contains (cons_option v (filter_map f xs)) s) (sym e) (again later))
    (λ t e. subst (λ (v : Option Step). Contains (cons_option v (filter_map f xs)) s) (sym e)
    (later-contains t s (filter_map f xs) (again later))))
    (or_cases _ _ among)

-- steps that keep the number are sorted if the numbers are
module _ (f : ℕ → Option Step) (numbered : (n : ℕ) (s : Step) → f n ≡ Some s → s.exit ≡ n) where
  from-low : (low low' : ℕ) (xs : List ℕ) → low ≤ low' → IsRisingFrom low' xs
      → All (λ s. low ≤ s.exit) (filter_map f xs)
  from-low low low' [] le rises = λ k d lt. absurd (omega (arith, lt))
  from-low low low' (x ∷ xs) le rises =
      let rest = from-low low (x + 1) xs (omega (arith, rises.0)) rises.1 in
      step_cases (f x)
      (λ e. subst (λ (v : Option Step). All (λ s. low ≤ s.exit) (cons_option v (filter_map f xs))) (sym e) rest)
      (λ t e.
      let same = numbered x t e in
      let head : low ≤ t.exit = omega (arith, rises.0, same) in
      subst (λ (v : Option Step). All (λ s. low ≤ s.exit) (cons_option v (filter_map f xs))) (sym e)
      (All-cons (λ s. low ≤ s.exit) t (filter_map f xs) head rest))

  steps-rise : (low : ℕ) (xs : List ℕ) → IsRisingFrom low xs → AllPairs (λ a b. a.exit < b.exit) (filter_map f xs)
  steps-rise low [] rises = λ i j d lt within. absurd (omega (arith, within))
  steps-rise low (x ∷ xs) rises =
      let rest = steps-rise (x + 1) xs rises.1 in
      step_cases (f x)
      (λ e. subst (λ (v : Option Step). AllPairs (λ a b. a.exit < b.exit) (cons_option v (filter_map f xs)))
      (sym e) rest)
      (λ t e.
      let same = numbered x t e in
      let above : All (λ s. x + 1 ≤ s.exit) (filter_map f xs) = from-low (x + 1) (x + 1) xs (omega arith) rises.1 in
      let head : All (λ s. t.exit < s.exit) (filter_map f xs) = λ k d lt. omega (arith, above k d lt, same) in
      subst (λ (v : Option Step). AllPairs (λ a b. a.exit < b.exit) (cons_option v (filter_map f xs))) (sym e)
      (AllPairs-cons (λ a b. a.exit < b.exit) t (filter_map f xs) head rest))

-- ---- one exit
-- the step of an open exit
pub record IsOpen (w : State) (p n : ℕ) (s : Step) : Type 0 where
  pub passage : Passage
  pub is : passage_of w n ≡ Some passage
  pub passes : IsTrue (passable w p n)
  pub step : step_by n passage ≡ s

pub opens-as : (w : State) (p n : ℕ) (s : Step) → open_step w p n ≡ Some s → IsOpen w p n s
opens-as w p n s e =
    bool_cases (passable w p n)
    (λ passes.
    let there : option_map (step_by n) (passage_of w n) ≡ Some s =
    sym (ap (λ b. cond b (option_map (step_by n) (passage_of w n)) None) passes) ∙ e in
    passage_cases (passage_of w n)
    (λ none. let bad : None ≡ Some s = sym (ap (option_map (step_by n)) none) ∙ there in absurd (cc))
    (λ a is.
    let both : Some (step_by n a) ≡ Some s = sym (ap (option_map (step_by n)) is) ∙ there in
    let step : step_by n a ≡ s = cc in
    record { passage = a; is = is; passes = passes; step = step }))
    (λ shut. let bad : None ≡ Some s =
    sym (ap (λ b. cond b (option_map (step_by n) (passage_of w n)) None) shut) ∙ e in absurd (cc))

open-numbered : (w : State) (p n : ℕ) (s : Step) → open_step w p n ≡ Some s → s.exit ≡ n
open-numbered w p n s e = ap (λ (x : Step). x.exit) (sym (opens-as w p n s e).step)

source-known : (w : State) (n room : ℕ) (a : Passage) → passage_of w n ≡ Some a
    → source_of w n ≡ Some room → a.source ≡ room
source-known w n room a is from = let both : Some a.source ≡ Some room =
    sym (ap (option_map (λ p. p.source)) is) ∙ from in cc

-- an open exit of the room gives a road
pub open-road : (w : State) (p room n : ℕ) (s : Step) → source_of w n ≡ Some room
    → open_step w p n ≡ Some s → IsRoad w p room s
open-road w p room n s from e =
    let o = opens-as w p n s e in
    let same : o.passage.source ≡ room = source-known w n room o.passage o.is from in
    subst (λ (x : Step). IsRoad w p room x) o.step
    (o.is ∙ ap (λ r. Some (record o.passage { source = r })) same, o.passes)

-- and each road is the step of its exit
pub road-open : (w : State) (p room : ℕ) (s : Step) → IsRoad w p room s → open_step w p s.exit ≡ Some s
road-open w p room s road =
    ap (λ b. cond b (option_map (step_by s.exit) (passage_of w s.exit)) None) road.1
    ∙ ap (option_map (step_by s.exit)) road.0

-- ---- the roads
-- each step of the roads is that of an open exit of the room
pub road-at : (w : State) → IsSound w → (p room : ℕ) (s : Step) → Contains (roads_of w p room) s → IsRoad w p room s
unfolding roads_of
road-at w sound p room s c =
    let from = given (open_step w p) (leaving_of w room) s c in
    open-road w p room from.0 s (((leaving_law w sound room).0 from.0).0 from.1) from.2

-- and the step of each such exit is there
pub road-to : (w : State) → IsSound w → (p room : ℕ) (s : Step) → IsRoad w p room s → Contains (roads_of w p room) s
unfolding roads_of
road-to w sound p room s road =
    gives (open_step w p) (leaving_of w room) s s.exit
    (((leaving_law w sound room).0 s.exit).1 (ap (option_map (λ p. p.source)) road.0)) (road-open w p room s road)

-- sorted by number
pub roads-rise : (w : State) → IsSound w → (p room : ℕ) → AllPairs (λ a b. a.exit < b.exit) (roads_of w p room)
unfolding roads_of
roads-rise w sound p room =
    steps-rise (open_step w p) (open-numbered w p) 0 (leaving_of w room) (leaving_law w sound room).1

pub roads_law : (w : State) → IsSound w → (p room : ℕ)
    → ((s : Step) → Contains (roads_of w p room) s ↔ IsRoad w p room s)
    × AllPairs (λ a b. a.exit < b.exit) (roads_of w p room)
roads_law = λ w sound p room. (λ s. (road-at w sound p room s, road-to w sound p room s), roads-rise w sound p room)

-- ---- the places of roads and travellers
pub room-below : (w : State) → IsSound w → (n : ℕ) → IsTrue (is_room w n) → n < w.next
room-below w sound n room =
    record_cases (record_at w n)
    (λ e. absurd (true≢false (sym room ∙ ap (λ v. option_map_or (λ r. is_room_kind r.kind) v false) e)))
    (λ r e. (in_bounds 0 w.next n r w.objects sound.rising e).1)

-- the ends of an exit are rooms, and its cost is within its limit
pub passage-well : (w : State) → IsSound w → (n : ℕ) (a : Passage) → passage_of w n ≡ Some a
    → IsTrue (is_room w a.source) × IsTrue (is_room w a.destination) × (a.cost ≤ MOST_COST)
passage-well w sound n a is =
    record_cases (record_at w n)
    (λ e. let bad : None ≡ Some a = sym (ap (option_and_then (λ r. kind_passage r.kind)) e) ∙ is in absurd (cc))
    (λ r e. of_kind r.kind (sym (ap (option_and_then (λ r. kind_passage r.kind)) e) ∙ is) (sound.placed n r e))
  where
    of_kind : (k : Kind) → kind_passage k ≡ Some a → IsPlacedWell w k → IsTrue (is_room w a.source)
        × IsTrue (is_room w a.destination) × (a.cost ≤ MOST_COST)
    of_kind Room e well = absurd (let bad : None ≡ Some a = e in cc)
    of_kind (Exit b) e well = let same : b ≡ a = cc in subst (λ (v : Passage). IsPlacedWell w (Exit v)) same well
    of_kind (Thing q) e well = absurd (let bad : None ≡ Some a = e in cc)
    of_kind (Player q) e well = absurd (let bad : None ≡ Some a = e in cc)

-- a step leads from a room to a room
pub steps-rooms : (w : State) → IsSound w → (p room : ℕ) (s : Step) → Contains (roads_of w p room) s
    → IsTrue (is_room w room) × IsTrue (is_room w s.to)
steps-rooms w sound p room s c =
    let well = passage-well w sound s.exit (record { source = room; destination = s.to; cost = s.cost })
    (road-at w sound p room s c).0 in
    (well.0, well.1)

pub steps-inside : (w : State) → IsSound w → (p room : ℕ) (s : Step) → Contains (roads_of w p room) s
    → (s.to < w.next) × (s.cost ≤ MOST_COST)
steps-inside w sound p room s c =
    let well = passage-well w sound s.exit (record { source = room; destination = s.to; cost = s.cost })
    (road-at w sound p room s c).0 in
    (room-below w sound s.to well.1, well.2)

-- no exit leaves a number that was never given
pub no-exits-past : (w : State) → IsSound w → (room : ℕ) → w.next ≤ room → leaving_of w room ≡ []
no-exits-past w sound room past = go (leaving_of w room) refl
  where
    go : (ns : List ℕ) → leaving_of w room ≡ ns → leaving_of w room ≡ []
    go [] e = e
    go (n ∷ ns) e =
        let among : list_any (nat_eq n) (leaving_of w room) ≡ true =
        ap (list_any (nat_eq n)) e ∙ or_left (nat_eq n n) (list_any (nat_eq n) ns) (eq-eqb n n refl) in
        let from : source_of w n ≡ Some room = ((leaving_law w sound room).0 n).0 among in
        passage_cases (passage_of w n)
        (λ none. let bad : None ≡ Some room = sym (ap (option_map (λ a. a.source)) none) ∙ from in absurd (cc))
        (λ a is.
        let same : Some a.source ≡ Some room = sym (ap (option_map (λ a. a.source)) is) ∙ from in
        let here : a.source ≡ room = cc in
        let below = room-below w sound a.source (passage-well w sound n a is).0 in
        absurd (omega (arith, below, here, past)))

pub no-roads-past : (w : State) → IsSound w → (p room : ℕ) → w.next ≤ room → roads_of w p room ≡ []
unfolding roads_of
no-roads-past w sound p room past = ap (filter_map (open_step w p)) (no-exits-past w sound room past)

-- a player is in a room
pub player-place : (w : State) → IsSound w → (p place : ℕ) → IsTrue (is_player w p)
    → place_of w p ≡ Some place → IsTrue (is_room w place)
player-place w sound p place player at =
    record_cases (record_at w p)
    (λ e. absurd (true≢false (sym player ∙ ap (λ v. option_map_or (λ r. is_player_kind r.kind) v false) e)))
    (λ r e.
    of_kind r.kind (sym (ap (λ v. option_map_or (λ r. is_player_kind r.kind) v false) e) ∙ player)
    (sym (ap (option_and_then (λ r. kind_place r.kind)) e) ∙ at) (sound.placed p r e))
  where
    of_kind : (k : Kind) → is_player_kind k ≡ true → kind_place k ≡ Some place
        → IsPlacedWell w k → IsTrue (is_room w place)
    of_kind Room e f well = absurd (true≢false (sym e))
    of_kind (Exit b) e f well = absurd (true≢false (sym e))
    of_kind (Thing q) e f well = absurd (true≢false (sym e))
    of_kind (Player q) e f well = let same : q ≡ place = cc in subst (λ (v : ℕ). IsTrue (is_room w v)) same well

pub traveller-room : (w : State) → IsSound w → (t : Knowledge) → IsTraveller w t → IsTrue (is_room w t.place)
traveller-room w sound t is = player-place w sound t.player t.place is.player is.place

pub traveller-below : (w : State) → IsSound w → (t : Knowledge) → IsTraveller w t → t.place < w.next
traveller-below w sound t is = room-below w sound t.place (traveller-room w sound t is)
