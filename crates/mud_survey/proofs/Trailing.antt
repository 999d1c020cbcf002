-- One player more.
use Rattle.std.proofs.Common.{◌≡◌, ℕ, ◌+◌, ◌-◌, ◌<◌, ◌≤◌, ◌⊎◌, inl, inr, true, false, List, [], ◌∷◌, ◌++◌, length, map}
use Rattle.std.proofs.Common.{take, zero, suc}
use Rattle.std.proofs.Common.{get_or, refl, sym, ◌∙◌, ap, subst, arith, ⊎_elim}
use Rattle.std.specs.Prelude.{Bool, not, ◌&&◌, ◌||◌, IsTrue, ◌↔◌, All, Any, AllPairs, Contains, filter}
use Rattle.std.specs.List.{range_with_len}
use Rattle.std.proofs.lemmas.Bool.{true≢false, or_cases, or_left, or_right, and_parts, cases_lt}
use Rattle.std.proofs.lemmas.List.{get_or_append_left, get_or-append_right, length-append, get_or-map, length-map}
use Rattle.std.proofs.lemmas.List.{get_or_default, get_or-take, length-take-le, map-append}
use Rattle.std.proofs.lemmas.List.Elements.{filter-append, All-contains, Contains-get_or, Contains-push}
use Rattle.std.proofs.lemmas.List.Elements.{Contains-push_cases}
use Rattle.std.proofs.lemmas.List.Elements.{Contains-append_left, Contains-append_right, Contains-append_cases}
use Rattle.std.proofs.lemmas.List.Kept.{AllPairs-filter}
use Rattle.mud_world.proofs.Records.{bool_cases}
use Rattle.mud_world.specs.State.{State, is_player}
use Rattle.mud_world.specs.Sound.{IsSound}
use Rattle.mud_roads.specs.Walks.{NoWalk}
use Rattle.mud_roads.specs.Passable.{roads_of}
use Rattle.mud_survey.specs.declared.survey.Stranded.{Stranded}
use Rattle.mud_survey.specs.Ways.{IsLinked, Comes, Passes}
use Rattle.mud_survey.specs.Survey.{Lists, IsStranded, IsStrandedBefore}
use Rattle.mud_survey.specs.inner.Marks.{mark_at, Marks}
use Rattle.mud_survey.specs.inner.Trailed.{strandings}
use Rattle.mud_survey.proofs.Listing.{first-or, behind, in-front, Contains-filter, filter-Contains, below-next}
use Rattle.mud_survey.proofs.Listing.{among-next}
use Rattle.mud_survey.proofs.Listing.{rising-range}
use Rattle.mud_survey.proofs.Coming.{comes-below}

-- ---- marks
any-of : {A : Type 0} (P : A → Type 0) (xs : List A) (x : A) → Contains xs x → P x → Any P xs
any-of P xs x (k, less, is) holds = (k, x, less, is, holds)

-- a property of one of the players, or of the one more
pub any-more : (P : ℕ → Type 0) (ps : List ℕ) (p : ℕ) → Any P (ps ++ p ∷ []) → Any P ps ⊎ P p
any-more P ps p (k, q, less, is, holds) =
    ⊎_elim (λ (before : Contains ps q). inl (any-of P ps q before holds)) (λ (same : p ≡ q). inr (subst P (sym same)
    holds))
    (Contains-push_cases ps p q (k, less, is))

pub any-before : (P : ℕ → Type 0) (ps : List ℕ) (p : ℕ) → Any P ps → Any P (ps ++ p ∷ [])
any-before P ps p (k, q, less, is, holds) =
    any-of P (ps ++ p ∷ []) q (Contains-append_left ps (p ∷ []) q (k, less, is)) holds

pub any-last : (P : ℕ → Type 0) (ps : List ℕ) (p : ℕ) → P p → Any P (ps ++ p ∷ [])
any-last P ps p holds = any-of P (ps ++ p ∷ []) p (Contains-push ps p) holds

-- the marks of some players and those of one more
pub merged : (Does : ℕ → ℕ → Type 0) (ps : List ℕ) (p : ℕ) (old more new : List Bool)
    → Marks (λ n. Any (λ q. Does q n) ps) old → Marks (Does p) more
    → ((n : ℕ) → mark_at new n ≡ (mark_at old n || mark_at more n)) → Marks (λ n. Any (λ q. Does q n) (ps ++ p ∷ []))
    new
merged Does ps p old more new before one is n = (
  λ marked. ⊎_elim (λ (first : mark_at old n ≡ true). any-before (λ q. Does q n) ps p ((before n).0 first))
      (λ (second : mark_at more n ≡ true). any-last (λ q. Does q n) ps p ((one n).0 second))
      (or_cases (mark_at old n) (mark_at more n) (sym (is n) ∙ marked)),
  λ any. is n ∙ ⊎_elim
      (λ (first : Any (λ q. Does q n) ps). or_left (mark_at old n) (mark_at more n) ((before n).1 first))
      (λ (second : Does p n). or_right (mark_at old n) (mark_at more n) ((one n).1 second))
      (any-more (λ q. Does q n) ps p any),
)

-- nobody does anything
pub marks-none : (Does : ℕ → ℕ → Type 0) (clear : List Bool) → ((n : ℕ) → mark_at clear n ≡ false)
    → Marks (λ n. Any (λ q. Does q n) []) clear
marks-none Does clear none n =
    (λ marked. absurd (true≢false (sym marked ∙ none n)), λ (k, q, less, is, holds). absurd (omega (arith, less)))

-- ---- lists
all-pairs-append : {A : Type 0} (R : A → A → Type 0) (P Q : A → Type 0) → ((x y : A) → P x → Q y → R x y)
    → (xs ys : List A) → All P xs → All Q ys → AllPairs R xs → AllPairs R ys → AllPairs R (xs ++ ys)
all-pairs-append {A} R P Q cross xs ys each other pairs pairs' i j d less within =
    go (cases_lt i (length xs)) (cases_lt j (length xs))
  where
    long : length (xs ++ ys) ≡ length xs + length ys
    long = length-append xs ys

    front : (k : ℕ) → k < length xs → get_or (xs ++ ys) k d ≡ get_or xs k d
    front k inside = get_or_append_left xs ys d k inside

    back : (k : ℕ) → length xs ≤ k → get_or (xs ++ ys) k d ≡ get_or ys (k - length xs) d
    back k past = get_or-append_right xs ys (length xs) k d refl past

    go : (i < length xs) ⊎ (length xs ≤ i) → (j < length xs) ⊎ (length xs ≤ j)
        → R (get_or (xs ++ ys) i d) (get_or (xs ++ ys) j d)
    go (inl here) (inl there) =
        subst (λ x. R x (get_or (xs ++ ys) j d)) (sym (front i here))
        (subst (λ y. R (get_or xs i d) y) (sym (front j there)) (pairs i j d less there))
    go (inl here) (inr past) =
        subst (λ x. R x (get_or (xs ++ ys) j d)) (sym (front i here))
        (subst (λ y. R (get_or xs i d) y) (sym (back j past))
        (cross (get_or xs i d) (get_or ys (j - length xs) d) (each i d here)
        (other (j - length xs) d (omega (arith, past, within, long)))))
    go (inr past) (inl there) = absurd (omega (arith, past, there, less))
    go (inr past) (inr past') =
        subst (λ x. R x (get_or (xs ++ ys) j d)) (sym (back i past))
        (subst (λ y. R (get_or ys (i - length xs) d) y) (sym (back j past'))
        (pairs' (i - length xs) (j - length xs) d (omega (arith, past, past', less))
        (omega (arith, past', within, long))))

-- an element that a function gives
map-Contains : {A B : Type 0} (f : A → B) (xs : List A) (x : A) → Contains xs x → Contains (map f xs) (f x)
map-Contains f xs x (k, less, is) = (
  k,
  (let long = length-map xs f in omega (arith, less, long)),
  get_or-map f xs k x (f x) less ∙ ap f is,
)

Contains-map : {A B : Type 0} (f : A → B) (xs : List A) (y : B) → Contains (map f xs) y
    → (x : A) × Contains xs x × (f x ≡ y)
Contains-map f [] y (k, less, is) = absurd (omega (arith, less))
Contains-map f (x ∷ xs) y c =
    ⊎_elim (λ (same : f x ≡ y). (x, in-front x xs, same))
    (λ (later : Contains (map f xs) y). let rest = Contains-map f xs y later in (
      rest.0,
      behind x xs rest.0 rest.1,
      rest.2,
    ))
    (first-or (f x) (map f xs) y c)

-- ---- stranded players
-- the player in the room
abbrev pub in-room : ℕ → ℕ → Stranded
in-room player room = record { player = player; room = room }

strand-is : (s : Stranded) (player room : ℕ) → in-room player room ≡ s → (player ≡ s.player) × (room ≡ s.room)
strand-is s player room is = (ap (λ (t : Stranded). t.player) is, ap (λ (t : Stranded). t.room) is)

-- one player more: the rooms that the player reaches without a way back
module _ (w : State) (sound : IsSound w) (ps : List ℕ) (player : ℕ) (is : IsTrue (is_player w player))
    (below : All (λ q. q < player) ps) (reached back : List Bool) (comes : Marks (Comes w player) reached)
    (links : Marks (λ room. IsLinked (roads_of w player) room 0) back) where
  abbrev pub new : List Stranded
  new = strandings player reached back (range_with_len 0 w.next)

  abbrev pub test : ℕ → Bool
  test room = mark_at reached room && not (mark_at back room)

  passed : (room : ℕ) → test room ≡ true → Comes w player room × NoWalk (roads_of w player) room 0
  passed room sure =
      let parts = and_parts (mark_at reached room) (not (mark_at back room)) sure in (
        (comes room).0 parts.0,
        λ ss walk. absurd (true≢false (sym parts.1 ∙ ap not ((links room).1 (ss, walk)))),
      )

  passes : (room : ℕ) → Comes w player room → NoWalk (roads_of w player) room 0 → test room ≡ true
  passes room there none =
      bool_cases (mark_at back room)
      (λ linked. let walk = (links room).0 linked in absurd (none walk.0 walk.1))
      (λ clear. ap (λ v. v && not (mark_at back room)) ((comes room).1 there) ∙ ap not clear)

  new-stranded : (s : Stranded) → Contains new s → IsStranded w (ps ++ player ∷ []) s
  new-stranded s c =
      let from = Contains-map (in-room player) (filter test (range_with_len 0 w.next)) s c in
      let kept = Contains-filter test (range_with_len 0 w.next) from.0 from.1 in
      let both = passed from.0 kept.1 in
      subst (IsStranded w (ps ++ player ∷ [])) from.2 (Contains-push ps player, both.0, both.1)

  stranded-new : (s : Stranded) → player ≡ s.player → Comes w s.player s.room → NoWalk (roads_of w s.player) s.room 0
      → Contains new s
  stranded-new s same there none =
      let there' : Comes w player s.room = subst (λ q. Comes w q s.room) (sym same) there in
      let none' : NoWalk (roads_of w player) s.room 0 = subst (λ q. NoWalk (roads_of w q) s.room 0) (sym same) none in
      let inside = comes-below w sound player s.room is there' in
      let kept = filter-Contains test (range_with_len 0 w.next) s.room (among-next w.next s.room inside)
      (passes s.room there' none') in
      let at : in-room player s.room ≡ s = λ i. record { player = same i; room = s.room } in
      subst (Contains new) at (map-Contains (in-room player) (filter test (range_with_len 0 w.next)) s.room kept)

  new-player : All (λ s. s.player ≡ player) new
  new-player k d less =
      let long = length-map (filter test (range_with_len 0 w.next)) (in-room player) in
      ap (λ (s : Stranded). s.player)
      (get_or-map (in-room player) (filter test (range_with_len 0 w.next)) k 0 d (omega (arith, less, long)))

  new-pairs : AllPairs IsStrandedBefore new
  new-pairs i j d less within =
      let rooms : List ℕ = filter test (range_with_len 0 w.next) in
      let long = length-map rooms (in-room player) in
      let one = get_or-map (in-room player) rooms i 0 d (omega (arith, less, within, long)) in
      let two = get_or-map (in-room player) rooms j 0 d (omega (arith, within, long)) in
      let rising = AllPairs-filter ◌<◌ test (range_with_len 0 w.next) (rising-range w.next) i j 0 less
      (omega (arith, within, long)) in
      subst (λ s. IsStrandedBefore s (get_or new j d)) (sym one)
      (subst (λ t. IsStrandedBefore (in-room player (get_or rooms i 0)) t) (sym two) (inr (refl, rising)))

  pub stranded-more : (old : List Stranded) → Lists IsStrandedBefore (IsStranded w ps) old
      → Lists IsStrandedBefore (IsStranded w (ps ++ player ∷ [])) (old ++ new)
  stranded-more old lists = record {
    exact = λ s. (
      λ c. ⊎_elim
          (λ (before : Contains old s).
          let so = (lists.exact s).0 before in (Contains-append_left ps (player ∷ []) s.player so.0, so.1, so.2))
          (λ (later : Contains new s). new-stranded s later)
          (Contains-append_cases old new s c),
      λ so. ⊎_elim
          (λ (before : Contains ps s.player).
          Contains-append_left old new s ((lists.exact s).1 (before, so.1, so.2)))
          (λ (same : player ≡ s.player). Contains-append_right old new s (stranded-new s same so.1 so.2))
          (Contains-push_cases ps player s.player so.0),
    );
    ordered = all-pairs-append IsStrandedBefore (λ s. s.player < player) (λ s. s.player ≡ player)
        (λ s t less same. inl (omega (arith, less, same))) old new
        (λ k d less.
        All-contains (λ q. q < player) ps (get_or old k d).player below
        ((lists.exact (get_or old k d)).0 (Contains-get_or old k d less)).0)
        new-player lists.ordered new-pairs;
  }

pub stranded-none : (w : State) → Lists IsStrandedBefore (IsStranded w []) []
stranded-none w = record {
  exact = λ s. (
    λ (k, less, is). absurd (omega (arith, less)),
    λ (c, there, none). absurd (let (k, less, is) = c in
        omega (arith, less)),
  );
  ordered = λ i j d less within. absurd (omega (arith, within));
}

-- the players before are below the next, where they rise
pub rising-below : (ps : List ℕ) → AllPairs ◌<◌ ps → (i : ℕ) → i < length ps → All (λ q. q < get_or ps i 0) (take i ps)
rising-below ps rising i inside k d less =
    let long = length-take-le i ps (omega (arith, inside)) in
    let at = get_or-take i ps k d (omega (arith, less, long)) in
    let pair = rising k i d (omega (arith, less, long)) inside in
    let same = get_or_default ps i d 0 inside in
    omega (arith, at, pair, same)

-- ---- room by room
range-push : (a n : ℕ) → range_with_len a (suc n) ≡ range_with_len a n ++ (a + n) ∷ []
range-push a zero = ap (λ m. m ∷ []) (let same : a ≡ a + zero = omega arith in same)
range-push a (suc n) =
    ap (λ l. a ∷ l) (range-push (a + 1) n
    ∙ ap (λ m. range_with_len (a + 1) n ++ m ∷ []) (let same : a + 1 + n ≡ a + suc n = omega arith in same))

pub strandings-more : (player : ℕ) (reached back : List Bool) (room : ℕ)
    → strandings player reached back (range_with_len 0 (room + 1))
    ≡ strandings player reached back (range_with_len 0 room) ++ strandings player reached back (room ∷ [])
strandings-more player reached back room =
    let test : ℕ → Bool = λ n. mark_at reached n && not (mark_at back n) in
    let more : range_with_len 0 (room + 1) ≡ range_with_len 0 room ++ room ∷ [] =
    ap (range_with_len 0) (let one : room + 1 ≡ suc room = omega arith in one) ∙ range-push 0 room
    ∙ ap (λ n. range_with_len 0 room ++ n ∷ []) (let same : 0 + room ≡ room = omega arith in same) in
    ap (λ l. map (in-room player) (filter test l)) more
    ∙ ap (map (in-room player)) (filter-append test (range_with_len 0 room) (room ∷ []))
    ∙ map-append (in-room player) (filter test (range_with_len 0 room)) (filter test (room ∷ []))
