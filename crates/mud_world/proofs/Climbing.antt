-- After a lock, each key nests at most 3 exactly if the questions that lead to the object and those that its key begins
-- are at most 3 together.
use Rattle.std.proofs.Common.{◌≡◌, ◌≢◌, ℕ, zero, suc, ◌+◌, ◌-◌, ◌<◌, ◌≤◌, Bool, true, false, not, List, [], ◌∷◌, length}
use Rattle.std.proofs.Common.{drop, get_or, Option, Some, None, refl, sym, ◌∙◌, ap, subst, arith, inl, inr, ⊎_elim}
use Rattle.std.specs.Prelude.{nat_eq, ◌⊎◌}
use Rattle.std.specs.Option.{option_map_or, option_and_then}
use Rattle.std.specs.List.{list_any, list_all, AllByRecursion}
use Rattle.std.proofs.lemmas.Bool.{and_from, or_cases, or_left, or_right, eqb-true, eq-eqb, true≢false, cases_eq}
use Rattle.mud_key.specs.Tree.{Tree}
use Rattle.mud_world.specs.declared.record.Record.{Record}
use Rattle.mud_world.specs.State.{State, record_at, key_of, nests, all_nest}
use Rattle.mud_world.specs.Sound.{IsSound, IsRising}
use Rattle.mud_world.specs.inner.Fields.{with_lock}
use Rattle.mud_world.specs.Nesting.{Question, Questions}
use Rattle.mud_world.specs.inner.Askers.{askers_of, climbs}
use Rattle.mud_world.specs.inner.Edits.{asked_by}
use Rattle.mud_world.proofs.Records.{bool_cases, record_cases, IsRising-set_value}
use Rattle.mud_world.proofs.Carrying.{listed}
use Rattle.mud_world.proofs.Listing.{All-from_lookups}
use Rattle.mud_world.proofs.Levels.{list_all-found}
use Rattle.mud_world.proofs.Locking.{locked_by, locked-missing, key_of-locked_same, key_of-locked_other}
use Rattle.mud_world.proofs.Nested.{questions-few, questions-more, questions-join, circles_law}

-- ---- the keys of a world, and the test of all of them
pub all_nest-found : (w : State) → all_nest w ≡ true → (a : ℕ) (k : Tree ℕ) → key_of w a ≡ Some k → nests w 3 k ≡ true
all_nest-found w all a k at =
    record_cases (record_at w a)
    (λ e. let bad : None ≡ Some k = sym (ap (option_and_then (λ r. r.key)) e) ∙ at in absurd (cc))
    (λ r e.
    let has : r.key ≡ Some k = sym (ap (option_and_then (λ r. r.key)) e) ∙ at in
    sym (ap (λ v. option_map_or (nests w 3) v true) has)
    ∙ list_all-found (λ r. option_map_or (nests w 3) r.key true) a r w.objects e all)

all_nest-each : (w : State) → IsRising 0 w.objects w.next
    → ((a : ℕ) (k : Tree ℕ) → key_of w a ≡ Some k → nests w 3 k ≡ true) → all_nest w ≡ true
all_nest-each w rising each =
    together (λ r. option_map_or (nests w 3) r.key true) w.objects
    (All-from_lookups (λ r. option_map_or (nests w 3) r.key true ≡ true) 0 w.next w.objects rising
    (λ n r at. by r.key (λ k has. each n k (ap (option_and_then (λ r. r.key)) at ∙ has))))
  where
    together : (p : Record → Bool) (es : List (ℕ × Record)) → AllByRecursion (λ e. p e.1 ≡ true) es
        → list_all (λ e. p e.1) es ≡ true
    together p [] all = refl
    together p (e ∷ es) all = and_from _ _ all.0 (together p es all.1)

    by : (v : Option (Tree ℕ)) → ((k : Tree ℕ) → v ≡ Some k → nests w 3 k ≡ true)
        → option_map_or (nests w 3) v true ≡ true
    by None f = refl
    by (Some k) f = f k refl

-- ---- chains that lead upwards
any-some : (p : ℕ → Bool) (xs : List ℕ) → list_any p xs ≡ true
    → (c : ℕ) × (list_any (nat_eq c) xs ≡ true) × (p c ≡ true)
any-some p [] any = absurd (true≢false (sym any))
any-some p (x ∷ xs) any =
    ⊎_elim
    (λ (e : p x ≡ true). (x, or_left (nat_eq x x) (list_any (nat_eq x) xs) (eq-eqb x x refl), e))
    (λ later. let rest = any-some p xs later in
    (rest.0, or_right (nat_eq rest.0 x) (list_any (nat_eq rest.0) xs) rest.1, rest.2))
    (or_cases (p x) (list_any p xs) any)

some-any : (p : ℕ → Bool) (c : ℕ) (xs : List ℕ) → list_any (nat_eq c) xs ≡ true → p c ≡ true → list_any p xs ≡ true
some-any p c [] any is = any
some-any p c (x ∷ xs) any is =
    ⊎_elim
    (λ (here : nat_eq c x ≡ true). or_left (p x) (list_any p xs) (ap p (sym (eqb-true c x here)) ∙ is))
    (λ later. or_right (p x) (list_any p xs) (some-any p c xs later is))
    (or_cases (nat_eq c x) (list_any (nat_eq c) xs) any)

snoc : (w : State) (n a c o : ℕ) → Questions w n a c → Question w c o → Questions w (suc n) a o
snoc w zero a c o way last = (o, subst (λ (v : ℕ). Question w v o) (sym way) last, refl)
snoc w (suc n) a c o way last = (way.0, way.1, snoc w n way.0 c o way.2 last)

unsnoc : (w : State) (n a o : ℕ) → Questions w (suc n) a o → (c : ℕ) × Questions w n a c × Question w c o
unsnoc w zero a o way = (a, refl, subst (λ (v : ℕ). Question w a v) way.2 way.1)
unsnoc w (suc n) a o way = let rest = unsnoc w n way.0 o way.2 in (rest.0, (way.0, way.1, rest.1), rest.2)

zero-is : (n : ℕ) → n ≤ 0 → 0 ≡ n
zero-is n le = omega (arith, le)

-- a suffix of a longer chain
shorter : (w : State) (n m a o : ℕ) → n ≤ m → Questions w m a o → (b : ℕ) × Questions w n b o
shorter w n zero a o le way = (a, subst (λ (v : ℕ). Questions w v a o) (zero-is n le) way)
shorter w n (suc m) a o le way =
    ⊎_elim
    (λ (e : n ≡ suc m). (a, subst (λ (v : ℕ). Questions w v a o) (sym e) way))
    (λ apart. shorter w n m way.0 o (omega (arith, apart)) way.2)
    (cases_eq n (suc m))

module _ (w : State) (sound : IsSound w) where
  asker-question : (a o : ℕ) → list_any (nat_eq a) (askers_of w o) ≡ true → Question w a o
  asker-question a o among =
      let is = sym (listed (λ r. asked_by o r.key) a 0 w.next w.objects sound.rising) ∙ among in
      record_cases (record_at w a)
      (λ e. absurd (true≢false (sym is ∙ ap (λ v. option_map_or (λ r. asked_by o r.key) v false) e)))
      (λ r e. by r.key (sym (ap (λ v. option_map_or (λ r. asked_by o r.key) v false) e) ∙ is)
      (ap (option_and_then (λ r. r.key)) e))
    where
      by : (v : Option (Tree ℕ)) → asked_by o v ≡ true → key_of w a ≡ v → Question w a o
      by None asks at = absurd (true≢false (sym asks))
      by (Some k) asks at = record { key = k; is = at; asks = asks }

  question-asker : (a o : ℕ) → Question w a o → list_any (nat_eq a) (askers_of w o) ≡ true
  question-asker a o q =
      listed (λ r. asked_by o r.key) a 0 w.next w.objects sound.rising
      ∙ record_cases (record_at w a)
      (λ e. let bad : None ≡ Some q.key = sym (ap (option_and_then (λ r. r.key)) e) ∙ q.is in absurd (cc))
      (λ r e.
      ap (λ v. option_map_or (λ r. asked_by o r.key) v false) e
      ∙ ap (asked_by o) (sym (ap (option_and_then (λ r. r.key)) e) ∙ q.is)
      ∙ q.asks)

  climb-way : (n o : ℕ) → climbs w n o ≡ true → (a : ℕ) × Questions w n a o
  climb-way zero o is = (o, refl)
  climb-way (suc n) o is =
      let last = any-some (climbs w n) (askers_of w o) is in
      let rest = climb-way n last.0 last.2 in
      (rest.0, snoc w n rest.0 last.0 o rest.1 (asker-question last.0 o last.1))

  way-climb : (n a o : ℕ) → Questions w n a o → climbs w n o ≡ true
  way-climb zero a o way = refl
  way-climb (suc n) a o way =
      let parts = unsnoc w n a o way in
      some-any (climbs w n) parts.0 (askers_of w o) (question-asker parts.0 o parts.2) (way-climb n a parts.0 parts.1)

  -- no chain of the world is longer than 3
  pub ways-few : (m a b : ℕ) → Questions w m a b → m ≤ 3
  ways-few zero a b way = omega arith
  ways-few (suc m) a b way =
      questions-few w 3 a way.1.key way.1.is (all_nest-found w sound.nesting a way.1.key way.1.is) (suc m) b way

  module _ (n : ℕ) (r : Record) (at : record_at w n ≡ Some r) (key : Tree ℕ) where
    abbrev w' : State
    w' = with_lock w n key

    own : key_of w' n ≡ Some key
    own = key_of-locked_same w n key r at

    same_question : (a b : ℕ) → a ≢ n → Question w a b → Question w' a b
    same_question a b apart q = record { key = q.key; is = key_of-locked_other w n key a apart ∙ q.is; asks = q.asks }

    old_question : (a b : ℕ) → a ≢ n → Question w' a b → Question w a b
    old_question a b apart q =
        record { key = q.key; is = sym (key_of-locked_other w n key a apart) ∙ q.is; asks = q.asks }

    -- a chain of the new world is one of the old world, or reaches the object and continues with its key
    split : (m a b : ℕ) → Questions w' m a b
        → Questions w m a b ⊎ ((i : ℕ) × (j : ℕ) × (m ≡ i + j) × Questions w i a n × Questions w' j n b)
    split zero a b way = inl way
    split (suc m) a b way =
        ⊎_elim
        (λ (here : a ≡ n). inr (0, suc m, omega arith, here, subst (λ (v : ℕ). Questions w' (suc m) v b) here way))
        (λ apart.
        let q = old_question a way.0 apart way.1 in
        ⊎_elim
        (λ (old : Questions w m way.0 b). inl (way.0, q, old))
        (λ (on : (i : ℕ) × (j : ℕ) × (m ≡ i + j) × Questions w i way.0 n × Questions w' j n b). let long = on.2 in
        inr (suc on.0, on.1, omega (arith, long), (way.0, q, on.3), on.4))
        (split m way.0 b way.2))
        (cases_eq a n)

    -- a chain of the old world to the object is one of the new world, because it passes the object only at its end
    lift : (m a : ℕ) → Questions w m a n → Questions w' m a n
    lift zero a way = way
    lift (suc m) a way =
        ⊎_elim
        (λ (here : a ≡ n).
        let circle = subst (λ (v : ℕ). Questions w (suc m) v n) here way in
        let k = circle.1 in
        absurd (true≢false (sym (all_nest-found w sound.nesting n k.key k.is) ∙ circles_law w n m k.key circle k.is 3)))
        (λ apart. (way.0, same_question a way.0 apart way.1, lift m way.0 way.2))
        (cases_eq a n)

    pub nest-within : (d : ℕ) → d ≤ 3 → nests w' d key ≡ true → climbs w (4 - d) n ≡ false → all_nest w' ≡ true
    nest-within d le nest low =
        all_nest-each w'
        (subst (λ (v : State). IsRising 0 v.objects v.next) (sym (locked_by w n key r at))
        (IsRising-set_value 0 w.next n _ w.objects sound.rising))
        (λ a k is.
        bool_cases (nests w' 3 k)
        (λ e. e)
        (λ e.
        let more = questions-more w' 3 a k is e in
        ⊎_elim
        (λ (old : Questions w 4 a more.0). let few = ways-few 4 a more.0 old in absurd (omega (arith, few)))
        (λ (on : (i : ℕ) × (j : ℕ) × (4 ≡ i + j) × Questions w i a n × Questions w' j n more.0).
        let few = questions-few w' d n key own nest on.1 more.0 on.4 in
        let long = on.2 in
        let up = shorter w (4 - d) on.0 a n (omega (arith, few, long, le)) on.3 in
        absurd (true≢false (sym (way-climb (4 - d) up.0 n up.1) ∙ low)))
        (split 4 a more.0 more.1)))

    pub nest-without : (d : ℕ) → d ≤ 3 → nests w' d key ≡ false → climbs w (3 - d) n ≡ true → all_nest w' ≡ false
    nest-without d le nest high =
        bool_cases (all_nest w')
        (λ all.
        let up = climb-way (3 - d) n high in
        let down = questions-more w' d n key own nest in
        let joined = questions-join w' (3 - d) (suc d) up.0 n down.0 (lift (3 - d) up.0 up.1) down.1 in
        let long = joined.1 in
        let t = joined.0 in
        let few = few_of t up.0 down.0 all joined.2 in
        absurd (omega (arith, few, long, le)))
        (λ e. e)
      where
        few_of : (t a b : ℕ) → all_nest w' ≡ true → Questions w' t a b → t ≤ 3
        few_of zero a b all way = omega arith
        few_of (suc t) a b all way =
            questions-few w' 3 a way.1.key way.1.is (all_nest-found w' all a way.1.key way.1.is) (suc t) b way

    -- a key without questions is within the bound
    pub nest-plain : nests w' 0 key ≡ true → all_nest w' ≡ true
    nest-plain nest =
        nest-within 0 (omega arith) nest
        (bool_cases (climbs w 4 n)
        (λ e. let up = climb-way 4 n e in let few = ways-few 4 up.0 n up.1 in absurd (omega (arith, few)))
        (λ e. e))

-- the key nests at most one more than e, and more than e
pub nest-exactly : (w : State) (sound : IsSound w) (n : ℕ) (r : Record) (at : record_at w n ≡ Some r) (key : Tree ℕ)
    (e u : ℕ) → e ≤ 2 → u + e ≡ 3
    → nests (with_lock w n key) (e + 1) key ≡ true → nests (with_lock w n key) e key ≡ false
    → all_nest (with_lock w n key) ≡ not (climbs w u n)
nest-exactly w sound n r at key e u le sum within beyond =
    let up : 3 - e ≡ u = omega (arith, sum) in
    let low : 4 - (e + 1) ≡ u = omega (arith, sum) in
    bool_cases (climbs w u n)
    (λ high. nest-without w sound n r at key e (omega (arith, le)) beyond (ap (λ v. climbs w v n) up ∙ high)
    ∙ sym (ap not high))
    (λ none. nest-within w sound n r at key (e + 1) (omega (arith, le)) within (ap (λ v. climbs w v n) low ∙ none)
    ∙ sym (ap not none))

pub nest-missing : (w : State) → IsSound w → (n : ℕ) (key : Tree ℕ) → record_at w n ≡ None
    → all_nest (with_lock w n key) ≡ true
nest-missing w sound n key gone = ap all_nest (locked-missing w n key gone) ∙ sound.nesting

before : (n : ℕ) → n ≡ suc n - 1
before n = omega arith

pub climbs-up : (w : State) (n o : ℕ) → n ≢ 0 → climbs w n o ≡ list_any (climbs w (n - 1)) (askers_of w o)
climbs-up w zero o some = absurd (some refl)
climbs-up w (suc n) o some = ap (λ m. list_any (climbs w m) (askers_of w o)) (before n)

pub any-at : (p : ℕ → Bool) (i : ℕ) (xs : List ℕ) → i < length xs → p (get_or xs i 0) ≡ true → list_any p xs ≡ true
any-at p i [] lt is = absurd (omega arith)
any-at p zero (x ∷ xs) lt is = or_left (p x) (list_any p xs) is
any-at p (suc i) (x ∷ xs) lt is = or_right (p x) (list_any p xs) (any-at p i xs (omega arith) is)

pub any-past : (p : ℕ → Bool) (i : ℕ) (xs : List ℕ) → length xs ≤ i → list_any p (drop i xs) ≡ false
any-past p zero [] le = refl
any-past p (suc i) [] le = refl
any-past p zero (x ∷ xs) le = absurd (omega arith)
any-past p (suc i) (x ∷ xs) le = any-past p i xs (omega arith)
