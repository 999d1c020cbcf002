-- Descending through contents gives everything that an object carries.
use Rattle.std.proofs.Common.{◌≡◌, ℕ, zero, suc, ◌+◌, ◌<◌, ◌≤◌, Bool, true, false, cond, ◌||◌, List, [], ◌∷◌, ◌++◌}
use Rattle.std.proofs.Common.{length, get_or, Option, Some, None, refl, sym, ◌∙◌, ap, subst, arith, ⊎_elim}
use Rattle.std.specs.Prelude.{Result, Ok, Err, IfOk, IsTrue, ◌↔◌, nat_eq, is_some, slice_get}
use Rattle.std.specs.Option.{option_map_or, option_and_then}
use Rattle.std.specs.List.{list_any, IsDistinct}
use Rattle.std.specs.Map.{lookup}
use Rattle.std.proofs.lemmas.Bool.{cases_lt, or_cases, or_left, or_right, eq-eqb, eqb-true, true≢false}
use Rattle.std.proofs.lemmas.List.Folds.{list_any-append}
use Rattle.std.proofs.lemmas.Map.Steps.{length-le_from_distinct_below}
use Rattle.indexmap.specs.IndexSet.{insert_key, insert_all}
use Rattle.mud_world.specs.declared.record.Record.{Record}
use Rattle.mud_world.specs.declared.record.Kind.{Kind}
use Rattle.mud_world.specs.declared.record.Kind.TheVariants.{Room, Exit, Thing, Player}
use Rattle.mud_world.specs.Kinds.{kind_place, is_room_kind}
use Rattle.mud_world.specs.State.{State, has, unlocked_in, record_at, exists, place_of, is_number, contents_of, follow}
use Rattle.mud_world.specs.State.{within, Within, IsHolding}
use Rattle.mud_world.specs.Truth.{key_true}
use Rattle.mud_world.specs.Sound.{IsSound, IsRising, IsPlacedWell}
use Rattle.mud_world.proofs.Records.{record_cases, bool_cases, in_bounds}
use Rattle.mud_world.proofs.Places.{option_cases, follow_by}
use Rattle.mud_world.proofs.Containing.{within-Within}
use Rattle.mud_world.proofs.Numbering.{passing, passing_by}
use Rattle.mud_world.proofs.Removing.{lookup-below}
use Rattle.mud_world.proofs.Listing.{has_exists}

-- ---- a number among those that pass a test
listed_by : (test : Record → Bool) (o : ℕ) (e : ℕ × Record) (es : List (ℕ × Record)) (b : Bool) → test e.1 ≡ b
    → list_any (nat_eq o) (passing test (e ∷ es))
    ≡ list_any (nat_eq o) (cond b (e.0 ∷ passing test es) (passing test es))
listed_by test o e es b is = ap (list_any (nat_eq o)) (passing_by test e es b is)

pub listed : (test : Record → Bool) (o low high : ℕ) (es : List (ℕ × Record)) → IsRising low es high
    → list_any (nat_eq o) (passing test es) ≡ option_map_or test (lookup (nat_eq o) es) false
listed test o low high [] rises = refl
listed test o low high (e ∷ es) rises =
    let rest = listed test o (e.0 + 1) high es rises.1 in
    bool_cases (nat_eq o e.0)
    (λ here.
    let found : lookup (nat_eq o) (e ∷ es) ≡ Some e.1 = ap (λ b. cond b (Some e.1) (lookup (nat_eq o) es)) here in
    let same = eqb-true o e.0 here in
    bool_cases (test e.1)
    (λ in'. listed_by test o e es true in' ∙ ap (λ b. b || list_any (nat_eq o) (passing test es)) here
    ∙ sym (ap (λ v. option_map_or test v false) found ∙ in'))
    (λ out.
    listed_by test o e es false out ∙ rest
    ∙ ap (λ v. option_map_or test v false) (lookup-below o (e.0 + 1) high es rises.1 (omega (arith, same)))
    ∙ sym (ap (λ v. option_map_or test v false) found ∙ out)))
    (λ past.
    let found : lookup (nat_eq o) (e ∷ es) ≡ lookup (nat_eq o) es =
    ap (λ b. cond b (Some e.1) (lookup (nat_eq o) es)) past in
    bool_cases (test e.1)
    (λ in'. listed_by test o e es true in' ∙ ap (λ b. b || list_any (nat_eq o) (passing test es)) past ∙ rest
    ∙ sym (ap (λ v. option_map_or test v false) found))
    (λ out. listed_by test o e es false out ∙ rest ∙ sym (ap (λ v. option_map_or test v false) found)))

module _ (w : State) (sound : IsSound w) where
  -- the objects inside n have n as their place
  listed-contents : (o n : ℕ)
      → list_any (nat_eq o) (contents_of w n)
      ≡ option_map_or (λ r. is_number n (kind_place r.kind)) (record_at w o) false
  listed-contents o n = listed (λ r. is_number n (kind_place r.kind)) o 0 w.next w.objects sound.rising

  content-place : (o n : ℕ) → list_any (nat_eq o) (contents_of w n) ≡ true
      → (exists w o ≡ true) × (place_of w o ≡ Some n)
  content-place o n among =
      let is : option_map_or (λ r. is_number n (kind_place r.kind)) (record_at w o) false ≡ true =
      sym (listed-contents o n) ∙ among in
      record_cases (record_at w o)
      (λ e. absurd (true≢false (sym is ∙ ap (λ v. option_map_or (λ r. is_number n (kind_place r.kind)) v false) e)))
      (λ r e. (
        ap is_some e,
        ap (option_and_then (λ r. kind_place r.kind)) e
            ∙ same_number (kind_place r.kind)
            (sym (ap (λ v. option_map_or (λ r. is_number n (kind_place r.kind)) v false) e) ∙ is),
      ))
    where
      same_number : (v : Option ℕ) → is_number n v ≡ true → v ≡ Some n
      same_number None e = absurd (true≢false (sym e))
      same_number (Some p) e = ap (λ x. Some x) (sym (eqb-true n p e))

  place-content : (o n : ℕ) → place_of w o ≡ Some n → list_any (nat_eq o) (contents_of w n) ≡ true
  place-content o n at =
      record_cases (record_at w o)
      (λ e. let bad : None ≡ Some n = sym (ap (option_and_then (λ r. kind_place r.kind)) e) ∙ at in absurd (cc))
      (λ r e.
      let here : kind_place r.kind ≡ Some n = sym (ap (option_and_then (λ r. kind_place r.kind)) e) ∙ at in
      listed-contents o n ∙ ap (λ v. option_map_or (λ r. is_number n (kind_place r.kind)) v false) e
      ∙ ap (is_number n) here ∙ eq-eqb n n refl)

  place-exists : (a p : ℕ) → place_of w a ≡ Some p → exists w p ≡ true
  place-exists a p at =
      record_cases (record_at w a)
      (λ e. let bad : None ≡ Some p = sym (ap (option_and_then (λ r. kind_place r.kind)) e) ∙ at in absurd (cc))
      (λ r e. of_kind r.kind (sym (ap (option_and_then (λ r. kind_place r.kind)) e) ∙ at) (sound.placed a r e))
    where
      of_kind : (k : Kind) → kind_place k ≡ Some p → IsPlacedWell w k → exists w p ≡ true
      of_kind Room e well = absurd (let bad : None ≡ Some p = e in cc)
      of_kind (Exit x) e well = absurd (let bad : None ≡ Some p = e in cc)
      of_kind (Thing q) e well = let same : q ≡ p = cc in subst (λ (v : ℕ). exists w v ≡ true) same well.0
      of_kind (Player q) e well = let same : q ≡ p = cc in
          subst (λ (v : ℕ). exists w v ≡ true) same (has_exists w (λ r. is_room_kind r.kind) q well)

-- ---- the numbers found so far; the contents of the first i have been visited
pub record Gathers (w : State) (c : ℕ) (keys : List ℕ) (i : ℕ) : Type 0 where
  pub inside : (o : ℕ) → list_any (nat_eq o) keys ≡ true → Within w o c
  pub first : exists w c ≡ true → list_any (nat_eq c) keys ≡ true
  pub closed : (j p o : ℕ) → j < i → slice_get keys j ≡ Some p → place_of w o ≡ Some p → list_any (nat_eq o) keys ≡ true

pub get-front : (ks xs : List ℕ) (j : ℕ) → j < length ks → slice_get (ks ++ xs) j ≡ slice_get ks j
get-front [] xs j lt = absurd (omega arith)
get-front (k ∷ ks) xs zero lt = refl
get-front (k ∷ ks) xs (suc j) lt = get-front ks xs j (omega arith)

length-push : (ks : List ℕ) (k : ℕ) → length ks ≤ length (ks ++ k ∷ [])
length-push [] k = omega arith
length-push (x ∷ ks) k = let rest = length-push ks k in omega (arith, rest)

key-kept : (ks : List ℕ) (k j : ℕ) → j < length ks
    → (slice_get (insert_key nat_eq ks k) j ≡ slice_get ks j) × (length ks ≤ length (insert_key nat_eq ks k))
key-kept ks k j lt = by (list_any (nat_eq k) ks)
  where
    by : (b : Bool)
        → (slice_get (cond b ks (ks ++ k ∷ [])) j ≡ slice_get ks j) × (length ks ≤ length (cond b ks (ks ++ k ∷ [])))
    by true = (refl, omega arith)
    by false = (get-front ks (k ∷ []) j lt, length-push ks k)

pub keys-kept : (xs ks : List ℕ) (j : ℕ) → j < length ks → slice_get (insert_all nat_eq ks xs) j ≡ slice_get ks j
keys-kept [] ks j lt = refl
keys-kept (x ∷ xs) ks j lt =
    let one = key-kept ks x j lt in
    let longer = one.1 in
    keys-kept xs (insert_key nat_eq ks x) j (omega (arith, lt, longer)) ∙ one.0

pub or-false : (b : Bool) → (b || false) ≡ b
or-false true = refl
or-false false = refl

pub or-more : (a b c : Bool) → (a || (b || c)) ≡ ((a || b) || c)
or-more true b c = refl
or-more false b c = refl

any-push : (o k : ℕ) (ks : List ℕ) → list_any (nat_eq o) (ks ++ k ∷ []) ≡ (list_any (nat_eq o) ks || nat_eq o k)
any-push o k ks = list_any-append (nat_eq o) ks (k ∷ [])
    ∙ ap (λ b. list_any (nat_eq o) ks || b) (or-false (nat_eq o k))

pub any-one : (o k : ℕ) (ks : List ℕ)
    → list_any (nat_eq o) (insert_key nat_eq ks k) ≡ (list_any (nat_eq o) ks || nat_eq o k)
any-one o k ks =
    bool_cases (list_any (nat_eq k) ks)
    (λ old.
    ap (λ b. list_any (nat_eq o) (cond b ks (ks ++ k ∷ []))) old
    ∙ bool_cases (nat_eq o k)
    (λ e. let t = ap (λ v. list_any (nat_eq v) ks) (eqb-true o k e) ∙ old in t ∙ sym (or_left _ _ t))
    (λ e. sym (ap (λ b. list_any (nat_eq o) ks || b) e ∙ or-false (list_any (nat_eq o) ks))))
    (λ new. ap (λ b. list_any (nat_eq o) (cond b ks (ks ++ k ∷ []))) new ∙ any-push o k ks)

any-all : (o : ℕ) (xs ks : List ℕ)
    → list_any (nat_eq o) (insert_all nat_eq ks xs) ≡ (list_any (nat_eq o) ks || list_any (nat_eq o) xs)
any-all o [] ks = sym (or-false (list_any (nat_eq o) ks))
any-all o (x ∷ xs) ks =
    any-all o xs (insert_key nat_eq ks x)
    ∙ ap (λ b. b || list_any (nat_eq o) xs) (any-one o x ks)
    ∙ sym (or-more (list_any (nat_eq o) ks) (nat_eq o x) (list_any (nat_eq o) xs))

-- at first there is only c, if it exists
pub gathers-one : (w : State) (c : ℕ) (keys : List ℕ) → exists w c ≡ true → keys ≡ insert_key nat_eq [] c
    → Gathers w c keys 0
gathers-one w c keys there is = record {
  inside = λ o among.
      let same : nat_eq o c ≡ true = sym (ap (list_any (nat_eq o)) is ∙ or-false (nat_eq o c)) ∙ among in
      let e = eqb-true o c same in
      (ap (exists w) e ∙ there, (0, ap (λ v. Some v) e));
  first = λ _. ap (list_any (nat_eq c)) is ∙ or-false (nat_eq c c) ∙ eq-eqb c c refl;
  closed = λ j p o low got placed. absurd (omega (arith, low));
}

pub gathers-none : (w : State) (c : ℕ) (keys : List ℕ) → exists w c ≡ false → keys ≡ [] → Gathers w c keys 0
gathers-none w c keys gone is = record {
  inside = λ o among. absurd (true≢false (sym among ∙ ap (list_any (nat_eq o)) is));
  first = λ there. absurd (true≢false (sym there ∙ gone));
  closed = λ j p o low got placed. absurd (omega (arith, low));
}

member-at : (p : ℕ) (ks : List ℕ) → list_any (nat_eq p) ks ≡ true
    → (j : ℕ) × (j < length ks) × (slice_get ks j ≡ Some p)
member-at p [] among = absurd (true≢false (sym among))
member-at p (x ∷ ks) among =
    ⊎_elim
    (λ (here : nat_eq p x ≡ true). (0, omega arith, ap (λ v. Some v) (sym (eqb-true p x here))))
    (λ later. let rest = member-at p ks later in (suc rest.0, omega (arith, rest.1), rest.2))
    (or_cases _ _ among)

module _ (w : State) (sound : IsSound w) (c : ℕ) where
  -- one more object is visited: the numbers found keep their places, and its contents are added
  pub gathers-on : (keys keys' : List ℕ) (i at : ℕ) → Gathers w c keys i → slice_get keys i ≡ Some at
      → i < length keys → ((j : ℕ) → j < length keys → slice_get keys' j ≡ slice_get keys j)
      → ((o : ℕ) → list_any (nat_eq o) keys' ≡ (list_any (nat_eq o) keys || list_any (nat_eq o) (contents_of w at)))
      → Gathers w c keys' (i + 1)
  gathers-on keys keys' i at was here lt stands union = record {
    inside = λ o among.
        ⊎_elim
        (λ (old : list_any (nat_eq o) keys ≡ true). was.inside o old)
        (λ (new : list_any (nat_eq o) (contents_of w at) ≡ true).
        let there = content-place w sound o at new in
        let up = was.inside at (at-among at i keys here) in
        (there.0, (suc up.1.0, follow_by w up.1.0 o (Some at) there.1 ∙ up.1.1)))
        (or_cases _ _ (sym (union o) ∙ among));
    first = λ there. union c ∙ or_left _ _ (was.first there);
    closed = λ j p o low got placed.
        let before : slice_get keys j ≡ Some p = sym (stands j (omega (arith, low, lt))) ∙ got in
        ⊎_elim
        (λ (less : j < i). union o ∙ or_left _ _ (was.closed j p o less before placed))
        (λ (le : i ≤ j).
        let same : j ≡ i = omega (arith, low, le) in
        let both : Some p ≡ Some at = sym before ∙ ap (slice_get keys) same ∙ here in
        let is_at : p ≡ at = cc in
        union o ∙ or_right (list_any (nat_eq o) keys) _ (place-content w sound o at (placed ∙ ap (λ v. Some v) is_at)))
        (cases_lt j i);
  }
    where
      at-among : (at i : ℕ) (ks : List ℕ) → slice_get ks i ≡ Some at → list_any (nat_eq at) ks ≡ true
      at-among at i [] got = absurd (let bad : None ≡ Some at = got in cc)
      at-among at zero (x ∷ ks) got = let same : x ≡ at = cc in or_left _ _ (eq-eqb at x (sym same))
      at-among at (suc i) (x ∷ ks) got = or_right (nat_eq at x) _ (at-among at i ks got)

  -- each number occurs once
  pub gathers-more : (keys keys' : List ℕ) (i at : ℕ) → Gathers w c keys i → slice_get keys i ≡ Some at
      → i < length keys → keys' ≡ insert_all nat_eq keys (contents_of w at) → Gathers w c keys' (i + 1)
  gathers-more keys keys' i at was here lt is =
      gathers-on keys keys' i at was here lt
      (λ j low. ap (λ v. slice_get v j) is ∙ keys-kept (contents_of w at) keys j low)
      (λ o. ap (list_any (nat_eq o)) is ∙ any-all o (contents_of w at) keys)

  -- there are at most as many as there are numbers
  pub gathers-few : (keys : List ℕ) (i : ℕ) → Gathers w c keys i → IsDistinct nat_eq keys → length keys ≤ w.next
  gathers-few keys i all distinct =
      length-le_from_distinct_below keys w.next distinct (λ q among. low q (all.inside q among).0)
    where
      low : (q : ℕ) → exists w q ≡ true → q < w.next
      low q there =
          record_cases (record_at w q)
          (λ e. absurd (true≢false (sym there ∙ ap is_some e)))
          (λ r e. (in_bounds 0 w.next q r w.objects sound.rising e).1)

  -- when all are visited, they are the holding
  pub gathers-all : (keys : List ℕ) (i : ℕ) → Gathers w c keys i → length keys ≤ i → IsHolding w c keys
  gathers-all keys i all done = λ o.
      bool_cases (list_any (nat_eq o) keys)
      (λ e. e ∙ sym ((within-Within w sound o c).1 (all.inside o e)))
      (λ e.
      bool_cases (within w o c)
      (λ is. let inside = (within-Within w sound o c).0 is in
      absurd (true≢false (sym (reached inside.1.0 o inside.0 inside.1.1) ∙ e)))
      (λ is. e ∙ sym is))
    where
      reached : (k o : ℕ) → exists w o ≡ true → follow w k o ≡ Some c → list_any (nat_eq o) keys ≡ true
      reached zero o there at = let same : o ≡ c = cc in ap (λ v. list_any (nat_eq v) keys) same
          ∙ all.first (ap (exists w) (sym same) ∙ there)
      reached (suc k) o there at =
          option_cases (place_of w o)
          (λ e. let bad : None ≡ Some c = sym (follow_by w k o None e) ∙ at in absurd (cc))
          (λ p e.
          let held =
          member-at p keys (reached k p (place-exists w sound o p e) (sym (follow_by w k o (Some p) e) ∙ at)) in
          let low = held.1 in
          all.closed held.0 p o (omega (arith, low, done)) held.2 e)

-- the members of a holding are the objects inside the candidate
pub holding-members : (w : State) → IsSound w → (c : ℕ) (held : List ℕ) → IsHolding w c held → (o : ℕ)
    → IsTrue (list_any (nat_eq o) held) ↔ Within w o c
holding-members w sound c held is o =
    let same = within-Within w sound o c in
    (λ among. same.0 (sym (is o) ∙ among), λ inside. is o ∙ same.1 inside)

pub get-none : (ks : List ℕ) (i : ℕ) → slice_get ks i ≡ None → length ks ≤ i
get-none [] i gone = omega arith
get-none (x ∷ ks) zero gone = absurd (let bad : Some x ≡ None = gone in cc)
get-none (x ∷ ks) (suc i) gone = let rest = get-none ks i gone in omega (arith, rest)

pub get-some : (ks : List ℕ) (i x : ℕ) → slice_get ks i ≡ Some x → i < length ks
get-some [] i x got = absurd (let bad : None ≡ Some x = got in cc)
get-some (y ∷ ks) zero x got = omega arith
get-some (y ∷ ks) (suc i) x got = let rest = get-some ks i x got in omega (arith, rest)

-- a number that was not given yet names no object
pub missing-above : (w : State) → IsSound w → (o : ℕ) → w.next ≤ o → record_at w o ≡ None
missing-above w sound o le =
    record_cases (record_at w o)
    (λ e. e)
    (λ r e. let below = (in_bounds 0 w.next o r w.objects sound.rising e).1 in absurd (omega (arith, below)))

pub has-above : (w : State) → IsSound w → (o : ℕ) → w.next ≤ o → (test : Record → Bool) → has w o test ≡ false
has-above w sound o le test = ap (λ v. option_map_or test v false) (missing-above w sound o le)

pub get_or-past : (xs : List Bool) (i : ℕ) → length xs ≤ i → get_or xs i false ≡ false
get_or-past [] i le = refl
get_or-past (x ∷ xs) zero le = absurd (omega arith)
get_or-past (x ∷ xs) (suc i) le = get_or-past xs i (omega arith)

-- the results of a level give those of the next
pub next-level : (w : State) (held : ℕ → Bool) (before : List Bool) (n : ℕ)
    → ((o : ℕ) → get_or before o false ≡ unlocked_in w n held o) → (o : ℕ)
    → has w o (λ r. option_map_or (key_true held (λ a. get_or before a false)) r.key true)
    ≡ unlocked_in w (suc n) held o
next-level w held before n is o = λ i. has w o (λ r. option_map_or (key_true held (λ a. is a i)) r.key true)

pub if_ok-weaker : {T E : Type 0} (r : Result T E) (P Q : T → Type 0) → ((x : T) → P x → Q x) → IfOk r P → IfOk r Q
if_ok-weaker (Ok x) P Q f p = f x p
if_ok-weaker (Err e) P Q f p = p
