-- The holder of a name, by the map of names.
use Rattle.std.proofs.Common.{◌≡◌, ◌≢◌, ℕ, ◌+◌, Bool, true, false, cond, ◌||◌, ◌&&◌, not, List, [], ◌∷◌, Option, Some}
use Rattle.std.proofs.Common.{None, refl, sym, ◌∙◌, ap, arith}
use Rattle.std.specs.Prelude.{nat_eq, find}
use Rattle.std.specs.Option.{option_map, option_map_or}
use Rattle.std.specs.List.{list_any}
use Rattle.std.specs.Map.{lookup}
use Rattle.std.specs.Str.{str_to_ascii_lowercase}
use Rattle.std.proofs.lemmas.Bool.{eqb-true, eqb-false, eq-eqb, ne_eqb, true≢false}
use Rattle.mud_index.specs.Owners.{owner_of}
use Rattle.mud_world.specs.declared.record.Record.{Record}
use Rattle.mud_world.specs.Kinds.{is_player_kind}
use Rattle.mud_world.specs.State.{State, is_number, is_taken, shares, named_player}
use Rattle.mud_world.specs.Sound.{IsRising, IsSound}
use Rattle.mud_world.specs.inner.Edits.{names_to_find}
use Rattle.mud_world.specs.inner.Maps.{is_called, AreNames}
use Rattle.mud_world.proofs.Records.{record_cases, bool_cases, in_bounds}
use Rattle.mud_world.proofs.Owned.{among}
use Rattle.mud_world.proofs.Players.{found-in}

option_cases : {P : Type 0} (o : Option ℕ) → (o ≡ None → P) → ((n : ℕ) → o ≡ Some n → P) → P
option_cases None f g = f refl
option_cases (Some n) f g = g n refl

-- an object is found by a name exactly if it is a player with the name
called-is : (r : Record) (t : List ℕ) → among t (names_to_find r) ≡ (is_player_kind r.kind && among t r.names)
called-is r t = by_kind (is_player_kind r.kind)
  where
    by_kind : (b : Bool) → among t (cond b r.names []) ≡ (b && among t r.names)
    by_kind true = refl
    by_kind false = refl

-- ---- the player with a name

none-found : (t : List ℕ) (es : List (ℕ × Record))
    → option_map (λ (e : ℕ × Record). e.0) (find (λ e. is_player_kind e.1.kind && among t e.1.names) es) ≡ None
    → (n : ℕ) → option_map_or (λ r. among t (names_to_find r)) (lookup (nat_eq n) es) false ≡ false
none-found t [] none n = refl
none-found t (e ∷ es) none n =
    bool_cases test
    (λ yes. absurd
    (let bad : Some e.0 ≡ None =
    sym (ap (λ (b : Bool). option_map (λ (x : ℕ × Record). x.0) (cond b (Some e) rest)) yes) ∙ none in cc))
    (λ past.
    bool_cases (nat_eq n e.0)
    (λ here.
    ap (λ b. option_map_or (λ r. among t (names_to_find r)) (cond b (Some e.1) (lookup (nat_eq n) es)) false) here
    ∙ called-is e.1 t ∙ past)
    (λ there.
    ap (λ b. option_map_or (λ r. among t (names_to_find r)) (cond b (Some e.1) (lookup (nat_eq n) es)) false) there
    ∙ none-found t es
    (sym (ap (λ (b : Bool). option_map (λ (x : ℕ × Record). x.0) (cond b (Some e) rest)) past) ∙ none) n))
  where
    test : Bool
    test = is_player_kind e.1.kind && among t e.1.names

    rest : Option (ℕ × Record)
    rest = find (λ (x : ℕ × Record). is_player_kind x.1.kind && among t x.1.names) es

pub owner-named : (w : State) → IsSound w → (o : List (List ℕ × ℕ)) → AreNames o w → (t : List ℕ)
    → owner_of o (str_to_ascii_lowercase t) ≡ named_player w t
owner-named w sound o names t =
    option_cases (named_player w t)
    (λ none.
    option_cases owner
    (λ e. e ∙ sym none)
    (λ n e. absurd
    (true≢false (sym (ap (is_number n) e ∙ eq-eqb n n refl) ∙ names t n ∙ none-found t w.objects none n))))
    (λ n is.
    let f = found-in t n 0 w.next w.objects sound.rising is in
    let his : is_called w n t ≡ true =
    ap (λ v. option_map_or (λ r. among t (names_to_find r)) v false) f.at ∙ called-is f.r t
    ∙ ap (λ b. b && among t f.r.names) f.player ∙ f.named in
    option_cases owner
    (λ e. absurd (true≢false (sym (names t n ∙ his) ∙ ap (is_number n) e)))
    (λ m e. e ∙ ap Some (sym (eqb-true n m (sym (ap (is_number n) e) ∙ names t n ∙ his))) ∙ sym is))
  where
    owner : Option ℕ
    owner = owner_of o (str_to_ascii_lowercase t)

-- ---- names that others have

abbrev taker : ℕ → List (List ℕ) → ℕ × Record → Bool
taker n names e = not (nat_eq n e.0) && (is_player_kind e.1.kind && shares names e.1.names)

shares-one : (t : List ℕ) (others : List (List ℕ)) → shares (t ∷ []) others ≡ among t others
shares-one t others = either (among t others)
  where
    either : (b : Bool) → (b || false) ≡ b
    either true = refl
    either false = refl

taker-is : (n : ℕ) (t : List ℕ) (e : ℕ × Record)
    → taker n (t ∷ []) e ≡ (not (nat_eq n e.0) && among t (names_to_find e.1))
taker-is n t e =
    ap (λ b. not (nat_eq n e.0) && (is_player_kind e.1.kind && b)) (shares-one t e.1.names)
    ∙ ap (λ b. not (nat_eq n e.0) && b) (sym (called-is e.1 t))

-- one other player has it
one-takes : (n m : ℕ) (t : List ℕ) (es : List (ℕ × Record)) → m ≢ n
    → option_map_or (λ r. among t (names_to_find r)) (lookup (nat_eq m) es) false ≡ true
    → list_any (taker n (t ∷ [])) es ≡ true
one-takes n m t [] apart is = is
one-takes n m t (e ∷ es) apart is =
    bool_cases (nat_eq m e.0)
    (λ here.
    let his : among t (names_to_find e.1) ≡ true =
    sym (ap (λ b. option_map_or (λ r. among t (names_to_find r)) (cond b (Some e.1) (lookup (nat_eq m) es)) false) here)
    ∙ is in
    let other : nat_eq n e.0 ≡ false = ne_eqb n e.0 (λ same. apart (eqb-true m e.0 here ∙ sym same)) in
    ap (λ b. b || list_any (taker n (t ∷ [])) es)
    (taker-is n t e ∙ ap (λ b. not b && among t (names_to_find e.1)) other ∙ his))
    (λ past.
    or_second (taker n (t ∷ []) e) (list_any (taker n (t ∷ [])) es)
    (one-takes n m t es apart
    (sym
    (ap (λ b. option_map_or (λ r. among t (names_to_find r)) (cond b (Some e.1) (lookup (nat_eq m) es)) false) past)
    ∙ is)))
  where
    or_second : (a b : Bool) → b ≡ true → (a || b) ≡ true
    or_second true b e = refl
    or_second false b e = e

-- no other player has it
none-takes : (n : ℕ) (t : List ℕ) (low high : ℕ) (es : List (ℕ × Record)) → IsRising low es high
    → ((m : ℕ) → m ≢ n → option_map_or (λ r. among t (names_to_find r)) (lookup (nat_eq m) es) false ≡ false)
    → list_any (taker n (t ∷ [])) es ≡ false
none-takes n t low high [] rises none = refl
none-takes n t low high (e ∷ es) rises none =
    ap (λ b. b || list_any (taker n (t ∷ [])) es) (taker-is n t e ∙ first)
    ∙ none-takes n t (e.0 + 1) high es rises.1 rest
  where
    first : (not (nat_eq n e.0) && among t (names_to_find e.1)) ≡ false
    first =
        bool_cases (nat_eq n e.0)
        (λ here. ap (λ b. not b && among t (names_to_find e.1)) here)
        (λ past.
        ap (λ b. not b && among t (names_to_find e.1)) past
        ∙ ap (λ b. option_map_or (λ r. among t (names_to_find r)) (cond b (Some e.1) (lookup (nat_eq e.0) es)) false)
        (sym (eq-eqb e.0 e.0 refl))
        ∙ none e.0 (λ same. eqb-false n e.0 past (sym same)))

    rest : (m : ℕ) → m ≢ n → option_map_or (λ r. among t (names_to_find r)) (lookup (nat_eq m) es) false ≡ false
    rest m apart =
        record_cases (lookup (nat_eq m) es)
        (λ f. ap (λ v. option_map_or (λ r. among t (names_to_find r)) v false) f)
        (λ s f.
        let above = (in_bounds (e.0 + 1) high m s es rises.1 f).0 in
        ap (λ b. option_map_or (λ r. among t (names_to_find r)) (cond b (Some e.1) (lookup (nat_eq m) es)) false)
        (sym (ne_eqb m e.0 (λ same. omega (arith, above, same))))
        ∙ none m apart)

pub taken-one : (w : State) → IsSound w → (o : List (List ℕ × ℕ)) → AreNames o w → (n : ℕ) (t : List ℕ)
    → is_taken w n (t ∷ []) ≡ option_map_or (λ m. not (nat_eq m n)) (owner_of o (str_to_ascii_lowercase t)) false
taken-one w sound o names n t =
    option_cases owner
    (λ e. none-takes n t 0 w.next w.objects sound.rising (λ m apart. sym (names t m) ∙ ap (is_number m) e)
    ∙ sym (ap (λ v. option_map_or (λ m. not (nat_eq m n)) v false) e))
    (λ m e.
    bool_cases (nat_eq m n)
    (λ here.
    none-takes n t 0 w.next w.objects sound.rising
    (λ k apart. sym (names t k) ∙ ap (is_number k) e ∙ ne_eqb k m (λ same. apart (same ∙ eqb-true m n here)))
    ∙ sym (ap (λ v. option_map_or (λ m. not (nat_eq m n)) v false) e ∙ ap not here))
    (λ past.
    one-takes n m t w.objects (eqb-false m n past) (sym (names t m) ∙ ap (is_number m) e ∙ eq-eqb m m refl)
    ∙ sym (ap (λ v. option_map_or (λ m. not (nat_eq m n)) v false) e ∙ ap not past)))
  where
    owner : Option ℕ
    owner = owner_of o (str_to_ascii_lowercase t)

-- one name at a time
pub taken-more : (w : State) (n : ℕ) (t : List ℕ) (names : List (List ℕ))
    → is_taken w n (t ∷ names) ≡ (is_taken w n (t ∷ []) || is_taken w n names)
taken-more w n t names = go w.objects
  where
    split : (a b c d : Bool) (x y : Bool)
        → ((a && (b && (c || d))) || (x || y)) ≡ (((a && (b && (c || false))) || x) || ((a && (b && d)) || y))
    split false b c d x y = refl
    split true false c d x y = refl
    split true true true d x y = refl
    split true true false true true y = refl
    split true true false true false y = refl
    split true true false false x y = refl

    go : (es : List (ℕ × Record))
        → list_any (taker n (t ∷ names)) es ≡ (list_any (taker n (t ∷ [])) es || list_any (taker n names) es)
    go [] = refl
    go (e ∷ es) =
        ap (λ b. taker n (t ∷ names) e || b) (go es)
        ∙ split (not (nat_eq n e.0)) (is_player_kind e.1.kind) (among t e.1.names) (shares names e.1.names)
        (list_any (taker n (t ∷ [])) es) (list_any (taker n names) es)

pub taken-none : (w : State) (n : ℕ) → is_taken w n [] ≡ false
taken-none w n = go w.objects
  where
    nobody : (a b : Bool) → (a && (b && false)) ≡ false
    nobody true true = refl
    nobody true false = refl
    nobody false b = refl

    go : (es : List (ℕ × Record)) → list_any (taker n []) es ≡ false
    go [] = refl
    go (e ∷ es) = ap (λ b. b || list_any (taker n []) es) (nobody (not (nat_eq n e.0)) (is_player_kind e.1.kind))
        ∙ go es
