-- No two players share a name, after each kind of change.
use Rattle.std.proofs.Common.{◌≡◌, ◌≢◌, ℕ, Bool, false, cond, ◌||◌, ◌&&◌, not, List, [], ◌∷◌, Some, None, refl}
use Rattle.std.proofs.Common.{sym, ◌∙◌, ap, subst, ⊎_elim}
use Rattle.std.specs.Prelude.{nat_eq, IsTrue}
use Rattle.std.specs.List.{list_any}
use Rattle.std.specs.Map.{lookup}
use Rattle.std.specs.Str.{str_eq_ignore_ascii_case, str_to_ascii_lowercase}
use Rattle.std.proofs.lemmas.Bool.{cases_eq, eqb-true, eq-eqb, ne_eqb, or_parts, true≢false}
use Rattle.std.proofs.lemmas.Slice.Eq.{bytes_eq-Decides}
use Rattle.mud_world.specs.declared.record.Record.{Record}
use Rattle.mud_world.specs.Kinds.{is_player_kind}
use Rattle.mud_world.specs.State.{State, record_at, shares, is_taken}
use Rattle.mud_world.specs.inner.Fields.{AreNamedApart, with_record}
use Rattle.mud_world.specs.Legal.{with_new}
use Rattle.mud_world.proofs.Records.{record_cases, bool_cases, lookup-append_left, lookup-append_right}
use Rattle.mud_world.proofs.Records.{lookup-set_value_same, lookup-set_value_other}

-- ---- sharing is symmetric
same_either : (a b : List ℕ) → str_eq_ignore_ascii_case a b ≡ str_eq_ignore_ascii_case b a
same_either a b =
    let to = bytes_eq-Decides (str_to_ascii_lowercase a) (str_to_ascii_lowercase b) in
    let from = bytes_eq-Decides (str_to_ascii_lowercase b) (str_to_ascii_lowercase a) in
    bool_cases (str_eq_ignore_ascii_case a b)
    (λ e. e ∙ sym (from.1 (sym (to.0 e))))
    (λ e.
    bool_cases (str_eq_ignore_ascii_case b a)
    (λ f. absurd (true≢false (sym (to.1 (sym (from.0 f))) ∙ e)))
    (λ f. e ∙ sym f))

neither : (a b : Bool) → a ≡ false → b ≡ false → (a || b) ≡ false
neither a b e f = ap (λ v. v || b) e ∙ f

apart-first : {A : Type 0} (p : A → Bool) (q : A → Bool) (xs : List A) → list_any (λ x. p x || q x) xs ≡ false
    → (list_any p xs ≡ false) × (list_any q xs ≡ false)
apart-first p q [] none = (refl, refl)
apart-first p q (x ∷ xs) none =
    let parts = or_parts (p x || q x) (list_any (λ x. p x || q x) xs) none in
    let here = or_parts (p x) (q x) parts.0 in
    let rest = apart-first p q xs parts.1 in
    (neither (p x) (list_any p xs) here.0 rest.0, neither (q x) (list_any q xs) here.1 rest.1)

apart-swap : {A : Type 0} (f : A → A → Bool) (xs ys : List A) → list_any (λ x. list_any (f x) ys) xs ≡ false
    → list_any (λ y. list_any (λ x. f x y) xs) ys ≡ false
apart-swap f xs [] none = refl
apart-swap f xs (y ∷ ys) none =
    let parts = apart-first (λ x. f x y) (λ x. list_any (f x) ys) xs none in
    neither (list_any (λ x. f x y) xs) (list_any (λ y. list_any (λ x. f x y) xs) ys) parts.0
    (apart-swap f xs ys parts.1)

pub shares-flip : (xs ys : List (List ℕ)) → shares xs ys ≡ false → shares ys xs ≡ false
shares-flip xs ys none =
    ap (λ (f : List ℕ → List ℕ → Bool). list_any (λ b. list_any (f b) xs) ys) (λ i b a. same_either b a i)
    ∙ apart-swap str_eq_ignore_ascii_case xs ys none

-- ---- each player of the new world is one of the old world with the same names
pub named-kept : (w w' : State) → AreNamedApart w
    → ((n : ℕ) (s : Record) → record_at w' n ≡ Some s → IsTrue (is_player_kind s.kind)
    → (r : Record) × (record_at w n ≡ Some r) × IsTrue (is_player_kind r.kind) × (r.names ≡ s.names))
    → AreNamedApart w'
named-kept w w' named old a b r s at at' apart is is' =
    let first = old a r at is in
    let second = old b s at' is' in
    ap (λ v. shares v s.names) (sym first.3) ∙ ap (shares first.0.names) (sym second.3)
    ∙ named a b first.0 second.0 first.1 second.1 apart first.2 second.2

-- a player without any name that others have shares none
not_taken : (n : ℕ) (names : List (List ℕ)) (es : List (ℕ × Record))
    → list_any (λ e. not (nat_eq n e.0) && (is_player_kind e.1.kind && shares names e.1.names)) es ≡ false
    → (m : ℕ) (s : Record) → lookup (nat_eq m) es ≡ Some s → m ≢ n → IsTrue (is_player_kind s.kind)
    → shares names s.names ≡ false
not_taken n names [] free m s at apart is = absurd (let bad : None ≡ Some s = at in cc)
not_taken n names (e ∷ es) free m s at apart is =
    let parts = or_parts (not (nat_eq n e.0) && (is_player_kind e.1.kind && shares names e.1.names)) _ free in
    bool_cases (nat_eq m e.0)
    (λ here.
    let both : Some e.1 ≡ Some s = sym (ap (λ b. cond b (Some e.1) (lookup (nat_eq m) es)) here) ∙ at in
    let same : e.1 ≡ s = cc in
    let differs : nat_eq n e.0 ≡ false = ne_eqb n e.0 (λ f. apart (eqb-true m e.0 here ∙ sym f)) in
    sym (ap (λ v. not v && (is_player_kind e.1.kind && shares names e.1.names)) differs
    ∙ ap (λ v. is_player_kind v.kind && shares names v.names) same
    ∙ ap (λ v. v && shares names s.names) is)
    ∙ parts.0)
    (λ past. not_taken n names es parts.1 m s
    (sym (ap (λ b. cond b (Some e.1) (lookup (nat_eq m) es)) past) ∙ at) apart is)

pub not-shared : (w : State) (n : ℕ) (names : List (List ℕ)) → is_taken w n names ≡ false → (m : ℕ) (s : Record)
    → record_at w m ≡ Some s → m ≢ n → IsTrue (is_player_kind s.kind) → shares names s.names ≡ false
not-shared w n names free = not_taken n names w.objects free

-- one object has another record, or is new; the others are unchanged
pub named-anew : (w w' : State) (n : ℕ) (r : Record) → AreNamedApart w → record_at w' n ≡ Some r
    → ((m : ℕ) → m ≢ n → record_at w' m ≡ record_at w m)
    → (IsTrue (is_player_kind r.kind) → is_taken w n r.names ≡ false) → AreNamedApart w'
named-anew w w' n r named here there free a b s t at at' apart is is' =
    ⊎_elim
    (λ (e : a ≡ n).
    let same = new s (ap (record_at w') (sym e) ∙ at) in
    let other : b ≢ n = λ f. apart (e ∙ sym f) in
    shared_none s same is b t (sym (there b other) ∙ at') other is')
    (λ not_a.
    ⊎_elim
    (λ (e : b ≡ n).
    let same = new t (ap (record_at w') (sym e) ∙ at') in
    shares-flip t.names s.names (shared_none t same is' a s (sym (there a not_a) ∙ at) not_a is))
    (λ not_b. named a b s t (sym (there a not_a) ∙ at) (sym (there b not_b) ∙ at') apart is is')
    (cases_eq b n))
    (cases_eq a n)
  where
    new : (s : Record) → record_at w' n ≡ Some s → r ≡ s
    new s at = let both : Some r ≡ Some s = sym here ∙ at in cc

    shared_none : (s : Record) → r ≡ s → IsTrue (is_player_kind s.kind) → (m : ℕ) (t : Record) → record_at w m ≡ Some t
        → m ≢ n → IsTrue (is_player_kind t.kind) → shares s.names t.names ≡ false
    shared_none s same is m t at other is' =
        not-shared w n s.names
        (subst (λ (v : Record). IsTrue (is_player_kind v.kind) → is_taken w n v.names ≡ false) same free is) m t at
        other is'

-- the new record has the next number
pub record-new : (w : State) (r : Record) → record_at w w.next ≡ None
    → record_at (with_new w (r ∷ [])) w.next ≡ Some r
record-new w r gone = lookup-append_right w.next w.objects ((w.next, r) ∷ []) gone
    ∙ ap (λ b. cond b (Some r) None) (eq-eqb w.next w.next refl)

-- the old records keep their numbers
pub record-old : (w : State) (r : Record) (m : ℕ) → m ≢ w.next → record_at (with_new w (r ∷ [])) m ≡ record_at w m
record-old w r m apart =
    record_cases (record_at w m)
    (λ e. lookup-append_right m w.objects ((w.next, r) ∷ []) e ∙ ap (λ b. cond b (Some r) None) (ne_eqb m w.next apart)
    ∙ sym e)
    (λ s e. lookup-append_left m s w.objects ((w.next, r) ∷ []) e ∙ sym e)

pub named-added : (w : State) (r : Record) → AreNamedApart w → record_at w w.next ≡ None
    → (IsTrue (is_player_kind r.kind) → is_taken w w.next r.names ≡ false) → AreNamedApart (with_new w (r ∷ []))
named-added w r named gone free =
    named-anew w (with_new w (r ∷ [])) w.next r named (record-new w r gone) (record-old w r) free

pub named-set : (w : State) (n : ℕ) (r r' : Record) → AreNamedApart w → record_at w n ≡ Some r
    → (IsTrue (is_player_kind r'.kind) → is_taken w n r'.names ≡ false) → AreNamedApart (with_record w n r')
named-set w n r r' named at free =
    named-anew w (with_record w n r') n r' named (lookup-set_value_same n r' r w.objects at)
    (λ m apart. lookup-set_value_other n m apart r' w.objects) free

-- the new record adds no player, and has the same names
pub named-same : (w : State) (n : ℕ) (r r' : Record) → AreNamedApart w → record_at w n ≡ Some r
    → is_player_kind r'.kind ≡ is_player_kind r.kind → r'.names ≡ r.names → AreNamedApart (with_record w n r')
named-same w n r r' named at kind names =
    named-kept w (with_record w n r') named
    (λ m s is player.
    ⊎_elim
    (λ (e : m ≡ n).
    let found : Some r' ≡ Some s = sym (lookup-set_value_same n r' r w.objects at)
    ∙ ap (record_at (with_record w n r')) (sym e) ∙ is in
    let same : r' ≡ s = cc in (
      r,
      ap (record_at w) e ∙ at,
      sym kind ∙ ap (λ v. is_player_kind v.kind) same ∙ player,
      sym names
          ∙ ap (λ v. v.names) same,
    ))
    (λ apart. (s, sym (lookup-set_value_other n m apart r' w.objects) ∙ is, player, refl))
    (cases_eq m n))
