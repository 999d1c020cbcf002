-- Where a traveller comes.
use Rattle.std.proofs.Common.{◌≡◌, ℕ, ◌+◌, ◌<◌, ◌≤◌, ◌⊎◌, inl, inr, true, false, List, [], ◌∷◌, length, map, get_or}
use Rattle.std.proofs.Common.{◌++◌, Option, Some, None, refl, sym, ◌∙◌, ap, subst, arith, ⊎_elim}
use Rattle.std.specs.Prelude.{Bool, IsTrue, ◌↔◌, ◌&&◌, is_some, slice_get}
use Rattle.std.specs.List.{range_with_len}
use Rattle.std.specs.Option.{option_map}
use Rattle.std.proofs.lemmas.Bool.{true≢false, cases_lt, and_parts}
use Rattle.std.proofs.lemmas.List.{get_or_past, get_or_append_left, get_or_push}
use Rattle.std.proofs.lemmas.List.FromFn.{get_or-map-range_with_len, length-map-range_with_len}
use Rattle.mud_world.specs.State.{State, is_room, is_player, place_of, passage_of, source_of}
use Rattle.mud_world.specs.Sound.{IsSound}
use Rattle.mud_world.specs.declared.record.Passage.{Passage}
use Rattle.mud_roads.specs.declared.label.Label.{Label}
use Rattle.mud_roads.specs.declared.label.Step.{Step}
use Rattle.mud_roads.specs.Walks.{Roads, Walk, Least}
use Rattle.mud_roads.specs.Passable.{passable, roads_of, Knowledge, IsTraveller}
use Rattle.mud_roads.proofs.Roads.{steps-rooms, player-place, room-below}
use Rattle.mud_search.specs.Least.{AreLeast}
use Rattle.mud_survey.specs.Ways.{IsLinked, Comes, Passes}
use Rattle.mud_survey.specs.inner.Marks.{mark_at, Marks}

-- a walk from a room leads to a room
walk-room : (w : State) → IsSound w → (p from to : ℕ) (ss : List Step) → IsTrue (is_room w from)
    → Walk (roads_of w p) from ss to → IsTrue (is_room w to)
walk-room w sound p from to [] room walk = subst (λ n. IsTrue (is_room w n)) walk room
walk-room w sound p from to (s ∷ ss) room walk =
    walk-room w sound p s.to to ss (steps-rooms w sound p from s walk.0).1 walk.1

-- a player comes only to rooms
pub comes-room : (w : State) → IsSound w → (p room : ℕ) → IsTrue (is_player w p) → Comes w p room
    → IsTrue (is_room w room)
comes-room w sound p room player (from, at, (ss, walk)) =
    walk-room w sound p from room ss (player-place w sound p from player at) walk

pub comes-below : (w : State) → IsSound w → (p room : ℕ) → IsTrue (is_player w p) → Comes w p room → room < w.next
comes-below w sound p room player comes = room-below w sound room (comes-room w sound p room player comes)

one-place : (a b : ℕ) → ◌≡◌ {A = Option ℕ} (Some a) (Some b) → a ≡ b
one-place a b e = cc

-- a label says that a walk leads there
labelled : (w : State) (t : Knowledge) → IsTraveller w t → (room : ℕ) (label : Option Label)
    → Least 1 (roads_of w t.player) t.place room label → IsTrue (is_some label) ↔ Comes w t.player room
labelled w t is room None none = (
  λ h. absurd (true≢false (sym h)),
  λ (from, at, (ss, walk)).
      let here : from ≡ t.place = one-place from t.place (sym at ∙ is.place) in
      absurd (none ss (subst (λ n. Walk (roads_of w t.player) n ss room) here walk)),
)
labelled w t is room (Some l) least = (λ h. (t.place, is.place, (least.walked.0, least.walked.1)), λ c. refl)

-- the marks of labelled rooms
pub reached-marks : (w : State) → IsSound w → (t : Knowledge) → IsTraveller w t
    → (labels : ℕ → ℕ → Option Label) → AreLeast w (t ∷ []) labels → (marks : List Bool)
    → marks ≡ map (λ room. is_some (labels 0 room)) (range_with_len 0 w.next)
    → Marks (λ room. Comes w t.player room) marks
reached-marks w sound t is labels least marks are n =
    subst (λ (l : List Bool). IsTrue (mark_at l n) ↔ Comes w t.player n) (sym are) (go (cases_lt n w.next))
  where
    f : ℕ → Bool
    f room = is_some (labels 0 room)

    both : IsTrue (is_some (labels 0 n)) ↔ Comes w t.player n
    both = labelled w t is n (labels 0 n) (least 0 n t refl)

    go : (n < w.next) ⊎ (w.next ≤ n)
        → IsTrue (mark_at (map (λ room. is_some (labels 0 room)) (range_with_len 0 w.next)) n) ↔ Comes w t.player n
    go (inl inside) =
        let at = get_or-map-range_with_len (λ room. is_some (labels 0 room)) 0 w.next n n false inside (omega arith) in
        subst (λ b. IsTrue b ↔ Comes w t.player n) (sym at) both
    go (inr past) =
        let long = length-map-range_with_len (λ room. is_some (labels 0 room)) 0 w.next in
        let none = get_or_past (map (λ room. is_some (labels 0 room)) (range_with_len 0 w.next)) n false
        (omega (arith, past, long)) in (
          λ h. absurd (true≢false (sym h ∙ none)),
          λ c. absurd (let below = comes-below w sound t.player n is.player c in omega (arith, below, past)),
        )

pub reached-size : (labels : ℕ → ℕ → Option Label) (next : ℕ) (marks : List Bool)
    → marks ≡ map (λ room. is_some (labels 0 room)) (range_with_len 0 next) → length marks ≡ next
reached-size labels next marks are =
    ap (λ (l : List Bool). length l) are ∙ length-map-range_with_len (λ room. is_some (labels 0 room)) 0 next

-- ---- exits
-- the source of an exit whose ends are known
pub source-is : (w : State) (x : ℕ) (a : Passage) → passage_of w x ≡ Some a → source_of w x ≡ Some a.source
source-is w x a is = ap (option_map (λ p. p.source)) is

pub passes-by : (w : State) (p x : ℕ) (a : Passage) (reached : List Bool) → passage_of w x ≡ Some a
    → Marks (λ room. Comes w p room) reached
    → IsTrue (mark_at reached a.source && passable w p x) ↔ Passes w p x
passes-by w p x a reached is marks = (
  λ h. let parts = and_parts (mark_at reached a.source) (passable w p x) h in
      (a.source, source-is w x a is, (marks a.source).0 parts.0, parts.1),
  λ (room, from, comes, free).
      let here : room ≡ a.source = one-place room a.source (sym from ∙ source-is w x a is) in
      both-true (mark_at reached a.source) (passable w p x)
      ((marks a.source).1 (subst (λ n. Comes w p n) here comes)) free,
)
  where
    both-true : (b c : Bool) → b ≡ true → c ≡ true → (b && c) ≡ true
    both-true b c sure too = ap (λ v. v && c) sure ∙ too

pub passes-none : (w : State) (p x : ℕ) → passage_of w x ≡ None → Passes w p x → ⊥
passes-none w p x none (room, from, comes, free) =
    let bad : ◌≡◌ {A = Option ℕ} None (Some room) = sym (ap (option_map (λ (p : Passage). p.source)) none) ∙ from in cc

-- the marks of the numbers so far, and one more
pub marked-more : (IsSo : ℕ → Type 0) (marks : List Bool) (n : ℕ) (b : Bool) → length marks ≡ n
    → ((m : ℕ) → m < n → IsTrue (mark_at marks m) ↔ IsSo m) → (IsTrue b ↔ IsSo n)
    → (m : ℕ) → m < n + 1 → IsTrue (mark_at (marks ++ b ∷ []) m) ↔ IsSo m
marked-more IsSo marks n b size before here m less =
    ⊎_elim
    (λ (low : m < n).
    subst (λ v. IsTrue v ↔ IsSo m) (sym (get_or_append_left marks (b ∷ []) false m (omega (arith, low, size))))
    (before m low))
    (λ (past : n ≤ m).
    let same : m ≡ n = omega (arith, less, past) in
    subst (λ k. IsTrue (mark_at (marks ++ b ∷ []) k) ↔ IsSo k) (sym same)
    (subst (λ v. IsTrue v ↔ IsSo n) (sym (get_or_push marks b false n size)) here))
    (cases_lt m n)
