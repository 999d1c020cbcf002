-- The objects found by a name, after each kind of edit.
use Rattle.std.proofs.Common.{◌≡◌, ◌≢◌, ℕ, Bool, true, false, cond, ◌||◌, List, [], ◌∷◌, Option, Some, None, refl, sym}
use Rattle.std.proofs.Common.{◌∙◌, ap, ⊎_elim}
use Rattle.std.specs.Prelude.{bytes_eq}
use Rattle.std.specs.Option.{option_map_or}
use Rattle.std.specs.List.{list_any}
use Rattle.std.specs.Str.{str_eq_ignore_ascii_case, str_to_ascii_lowercase}
use Rattle.std.proofs.lemmas.Bool.{cases_eq, eqb-true, eq-eqb, ne_eqb, or_parts, true≢false}
use Rattle.std.proofs.lemmas.Slice.Eq.{bytes_eq-Decides}
use Rattle.mud_index.specs.Owners.{owner_of, AreOwnersPassed}
use Rattle.mud_index.specs.inner.Views.{HaveSameOwners}
use Rattle.mud_world.specs.declared.record.Record.{Record}
use Rattle.mud_world.specs.declared.record.Kind.{Kind}
use Rattle.mud_world.specs.declared.record.Kind.TheVariants.{Room, Exit, Thing, Player}
use Rattle.mud_world.specs.Kinds.{is_player_kind, kind_at}
use Rattle.mud_world.specs.State.{State, record_at, is_number, is_taken, shares}
use Rattle.mud_world.specs.Sound.{IsRising, IsSound}
use Rattle.mud_world.specs.Legal.{with_new}
use Rattle.mud_world.specs.inner.Fields.{with_record, without_object}
use Rattle.mud_world.specs.inner.CanGo.{CanAdd}
use Rattle.mud_world.specs.inner.Edits.{names_to_find, called_by, with_names}
use Rattle.mud_world.specs.inner.Maps.{is_called, AreNames}
use Rattle.mud_world.proofs.Records.{record_cases, bool_cases, lookup-set_value_same, lookup-set_value_other}
use Rattle.mud_world.proofs.Removing.{lookup-remove_other, lookup-remove_same}
use Rattle.mud_world.proofs.Grown.{next_missing}
use Rattle.mud_world.proofs.Naming.{not-shared, record-new, record-old}

abbrev Owners : Type 0
Owners = List (List ℕ × ℕ)

-- the name is one of these
abbrev pub among : List ℕ → List (List ℕ) → Bool
among t names = list_any (str_eq_ignore_ascii_case t) names

owner_is : (n : ℕ) (o : Option ℕ) → is_number n o ≡ true → o ≡ Some n
owner_is n None e = absurd (true≢false (sym e))
owner_is n (Some m) e = let same = eqb-true n m e in ap Some (sym same)

-- ---- edits that change no name

pub names-same : (w w' : State) (o o' : Owners) → AreNames o w
    → ((n : ℕ) (t : List ℕ) → is_called w' n t ≡ is_called w n t) → HaveSameOwners o o' → AreNames o' w'
names-same w w' o o' names same owners = λ t n.
    ap (is_number n) (owners (str_to_ascii_lowercase t)) ∙ names t n ∙ sym (same n t)

-- the other objects keep their records, and this one its names
kept-called : (w w' : State) (n : ℕ) → ((t : List ℕ) → is_called w' n t ≡ is_called w n t)
    → ((m : ℕ) → m ≢ n → record_at w' m ≡ record_at w m)
    → (m : ℕ) (t : List ℕ) → is_called w' m t ≡ is_called w m t
kept-called w w' n here there m t =
    ⊎_elim
    (λ (e : m ≡ n). ap (λ v. is_called w' v t) e ∙ here t ∙ sym (ap (λ v. is_called w v t) e))
    (λ apart. ap (λ v. option_map_or (λ r. among t (names_to_find r)) v false) (there m apart))
    (cases_eq m n)

at_record : (w : State) (n : ℕ) (r : Record) → record_at w n ≡ Some r → (t : List ℕ)
    → is_called w n t ≡ among t (names_to_find r)
at_record w n r at t = ap (λ v. option_map_or (λ r. among t (names_to_find r)) v false) at

at_none : (w : State) (n : ℕ) → record_at w n ≡ None → (t : List ℕ) → is_called w n t ≡ false
at_none w n at t = ap (λ v. option_map_or (λ r. among t (names_to_find r)) v false) at

pub names-edited : (w : State) (n : ℕ) (r r' : Record) → record_at w n ≡ Some r
    → names_to_find r' ≡ names_to_find r → (o o' : Owners) → AreNames o w → HaveSameOwners o o'
    → AreNames o' (with_record w n r')
names-edited w n r r' at same o o' names owners =
    names-same w (with_record w n r') o o' names
    (kept-called w (with_record w n r') n
    (λ t. at_record (with_record w n r') n r' (lookup-set_value_same n r' r w.objects at) t ∙ ap (among t) same
    ∙ sym (at_record w n r at t))
    (λ m apart. lookup-set_value_other n m apart r' w.objects))
    owners

pub names-removed : (w : State) → IsRising 0 w.objects w.next → (n : ℕ) (r : Record) → record_at w n ≡ Some r
    → names_to_find r ≡ [] → (o o' : Owners) → AreNames o w → HaveSameOwners o o' → AreNames o' (without_object w n)
names-removed w rising n r at nameless o o' names owners =
    names-same w (without_object w n) o o' names
    (kept-called w (without_object w n) n
    (λ t. at_none (without_object w n) n (lookup-remove_same n 0 w.next w.objects rising) t
    ∙ sym (at_record w n r at t ∙ ap (among t) nameless))
    (λ m apart. lookup-remove_other n m apart w.objects))
    owners

pub kind-placed : (y : ℕ) (k : Kind) → is_player_kind (kind_at y k) ≡ is_player_kind k
kind-placed y Room = refl
kind-placed y (Exit p) = refl
kind-placed y (Thing p) = refl
kind-placed y (Player p) = refl

-- ---- an object gets other names

module _ (w w' : State) (n : ℕ) (olds news : List (List ℕ)) (o o' : Owners) (names : AreNames o w)
    (was : (t : List ℕ) → is_called w n t ≡ among t olds) (is : (t : List ℕ) → is_called w' n t ≡ among t news)
    (there : (m : ℕ) → m ≢ n → record_at w' m ≡ record_at w m)
    (free : (m : ℕ) (t : List ℕ) → m ≢ n → among t news ≡ true → is_called w m t ≡ false)
    (passed : AreOwnersPassed olds news n o o') where
  abbrev before : List ℕ → Option ℕ
  before t = owner_of o (str_to_ascii_lowercase t)

  abbrev after_by : Bool → Bool → Option ℕ → Option ℕ
  after_by new old v = cond new (Some n) (cond old None v)

  own : (t : List ℕ) → is_number n (after_by (among t news) (among t olds) (before t)) ≡ among t news
  own t =
      bool_cases (among t news)
      (λ e. ap (λ b. is_number n (after_by b (among t olds) (before t))) e ∙ eq-eqb n n refl ∙ sym e)
      (λ e.
      ap (λ b. is_number n (after_by b (among t olds) (before t))) e
      ∙ bool_cases (among t olds)
      (λ f. ap (λ b. is_number n (cond b None (before t))) f)
      (λ f. ap (λ b. is_number n (cond b None (before t))) f ∙ names t n ∙ was t ∙ f)
      ∙ sym e)

  other : (m : ℕ) (t : List ℕ) → m ≢ n
      → is_number m (after_by (among t news) (among t olds) (before t)) ≡ is_called w m t
  other m t apart =
      bool_cases (among t news)
      (λ e. ap (λ b. is_number m (after_by b (among t olds) (before t))) e ∙ ne_eqb m n apart ∙ sym (free m t apart e))
      (λ e.
      ap (λ b. is_number m (after_by b (among t olds) (before t))) e
      ∙ bool_cases (among t olds)
      (λ f.
      let his : before t ≡ Some n = owner_is n (before t) (names t n ∙ was t ∙ f) in
      ap (λ b. is_number m (cond b None (before t))) f ∙ sym (ne_eqb m n apart) ∙ ap (is_number m) (sym his)
      ∙ names t m)
      (λ f. ap (λ b. is_number m (cond b None (before t))) f ∙ names t m))

  pub names-anew : AreNames o' w'
  names-anew = λ t m.
      ap (is_number m) (passed (str_to_ascii_lowercase t))
      ∙ ⊎_elim
      (λ (e : m ≡ n). ap (λ v. is_number v (after_by (among t news) (among t olds) (before t))) e ∙ own t ∙ sym (is t)
      ∙ ap (λ v. is_called w' v t) (sym e))
      (λ apart. other m t apart
      ∙ ap (λ v. option_map_or (λ r. among t (names_to_find r)) v false) (sym (there m apart)))
      (cases_eq m n)

-- a name of an object that shares no name with the others differs from theirs
not_both : (t : List ℕ) (xs ys : List (List ℕ)) → among t xs ≡ true → shares xs ys ≡ false → among t ys ≡ false
not_both t [] ys e none = absurd (true≢false (sym e))
not_both t (x ∷ xs) ys e none =
    let parts = or_parts (among x ys) (shares xs ys) none in
    bool_cases (str_eq_ignore_ascii_case t x)
    (λ here. ap (λ (v : List ℕ). list_any (λ y. bytes_eq v (str_to_ascii_lowercase y)) ys)
    ((bytes_eq-Decides (str_to_ascii_lowercase t) (str_to_ascii_lowercase x)).0 here) ∙ parts.0)
    (λ past. not_both t xs ys (sym (ap (λ b. b || among t xs) past) ∙ e) parts.1)

-- names that no other object has can be given
module _ (w : State) (n : ℕ) (k : Kind) (names : List (List ℕ))
    (can : is_player_kind k ≡ true → is_taken w n names ≡ false) where
  pub free-called : (m : ℕ) (t : List ℕ) → m ≢ n → among t (called_by k names) ≡ true → is_called w m t ≡ false
  free-called m t apart e =
      bool_cases (is_player_kind k)
      (λ player.
      let his : among t names ≡ true = sym (ap (λ b. among t (cond b names [])) player) ∙ e in
      record_cases (record_at w m)
      (λ f. at_none w m f t)
      (λ s f. at_record w m s f t ∙ other s f his player))
      (λ past. absurd (true≢false (sym e ∙ ap (λ b. among t (cond b names [])) past)))
    where
      other : (s : Record) → record_at w m ≡ Some s → among t names ≡ true → is_player_kind k ≡ true
          → among t (names_to_find s) ≡ false
      other s f his player =
          bool_cases (is_player_kind s.kind)
          (λ p. ap (λ b. among t (cond b s.names [])) p
          ∙ not_both t names s.names his (not-shared w n names (can player) m s f apart p))
          (λ p. ap (λ b. among t (cond b s.names [])) p)

pub names-grown : (w : State) → IsSound w → (r : Record) → CanAdd w r → (o o' : Owners) → AreNames o w
    → AreOwnersPassed [] (names_to_find r) w.next o o' → AreNames o' (with_new w (r ∷ []))
names-grown w sound r can o o' names passed =
    let missing = next_missing w sound in
    names-anew w (with_new w (r ∷ [])) w.next [] (names_to_find r) o o' names (at_none w w.next missing)
    (at_record (with_new w (r ∷ [])) w.next r (record-new w r missing)) (record-old w r)
    (free-called w w.next r.kind r.names can.free) passed

pub names-renamed : (w : State) (n : ℕ) (r : Record) → record_at w n ≡ Some r → (names : List (List ℕ))
    → (is_player_kind r.kind ≡ true → is_taken w n names ≡ false) → (o o' : Owners) → AreNames o w
    → AreOwnersPassed (names_to_find r) (called_by r.kind names) n o o'
    → AreNames o' (with_record w n (with_names names r))
names-renamed w n r at names free o o' are passed =
    names-anew w (with_record w n (with_names names r)) n (names_to_find r) (called_by r.kind names) o o' are
    (at_record w n r at)
    (at_record (with_record w n (with_names names r)) n (with_names names r)
    (lookup-set_value_same n (with_names names r) r w.objects at))
    (λ m apart. lookup-set_value_other n m apart (with_names names r) w.objects)
    (free-called w n r.kind names free) passed
