-- Members without doubts: they are distinct, and each satisfies its conditions.
use Rattle.std.proofs.Common.{◌≡◌, ◌≢◌, ◌⊎◌, inl, inr, ℕ, ◌-◌, ◌<◌, List, [], ◌∷◌, ◌++◌, map, length, get_or, Option}
use Rattle.std.proofs.Common.{None, Some, Bool, true, false, not, zero, suc, refl, sym, ◌∙◌, ap, subst, arith, eqb}
use Rattle.std.proofs.Common.{append_assoc, append-nil, length-append}
use Rattle.std.specs.Prelude.{All, option_map}
use Rattle.std.specs.List.{AllPairs, list_any, list_all, find}
use Rattle.std.proofs.lemmas.Bool.{and_parts, and_from, or_parts, eqb-true, eq-eqb, eqb-false, ne_eqb, not-true}
use Rattle.std.proofs.lemmas.Bool.{not_from_false, false≢true}
use Rattle.std.proofs.lemmas.List.{get_or_append_left, get_or-append_right}
use Rattle.std.proofs.lemmas.List.Elements.{All-cons, All-head, All-tail, All-nil}
use Rattle.std.proofs.lemmas.List.Sums.{AllPass-from_list_all, list_all-from_AllPass}
use Rattle.std.proofs.lemmas.List.Folds.{list_any_none}
use Rattle.std.proofs.lemmas.List.Quantifiers.{all_pairs_push}
use Rattle.mud_roads.specs.declared.label.Label.{Label}
use Rattle.mud_roads.specs.declared.label.Step.{Step}
use Rattle.mud_world.specs.State.{State, is_player, is_room, place_of, is_number}
use Rattle.mud_world.specs.Sound.{IsSound}
use Rattle.mud_roads.specs.Labels.{start_label}
use Rattle.mud_cert.specs.Lookup.{label_at}
use Rattle.mud_cert.specs.inner.Ways.{end_of, steps_of}
use Rattle.mud_roads.specs.Walks.{exits_of, total}
use Rattle.mud_cert.specs.declared.cert.Form.{Form}
use Rattle.mud_cert.specs.Certificate.{Account, hop_of}
use Rattle.mud_cert.specs.declared.doubt.Doubt.{Doubt}
use Rattle.mud_cert.specs.declared.doubt.Doubt.TheVariants as doubts
use Rattle.mud_cert.specs.inner.Tests.{is_label, first_break, first_lock, ◌or◌, unless, numbers, is_new, stands}
use Rattle.mud_cert.specs.inner.Tests.{is_started}
use Rattle.mud_cert.specs.inner.Tests.{breaks}
use Rattle.mud_cert.specs.inner.Tests.{given_doubt, member_doubt, members_doubt}
use Rattle.mud_cert.specs.Valid.{States, IsMember}
use Rattle.mud_cert.proofs.Ways.{step-exit}
use Rattle.mud_cert.proofs.Doubtless.{or-none, or-both, unless-none, unless-from, option-none, walk-from, IsTaken}
use Rattle.mud_cert.proofs.Doubtless.{walk-to, label-is, is-label, steps-from, steps-to}

-- one player only
abbrev pub Apart : Account → Account → Type 0
Apart a b = a.player ≢ b.player

pub placed : (o : Option ℕ) (from : ℕ) → is_number from o ≡ true → o ≡ Some from
placed None from e = absurd (false≢true e)
placed (Some q) from e = ap Some (sym (eqb-true from q e))

pub named : (w : State) (ss : List ℕ) → map (λ (s : Step). s.exit) (steps_of w ss) ≡ ss
named w [] = refl
named w (x ∷ xs) = ap (λ n. n ∷ map (λ (s : Step). s.exit) (steps_of w xs)) (step-exit w x)
    ∙ ap (λ ns. x ∷ ns) (named w xs)

-- the steps of the exits of a given walk are those of the walk, and its end is the given one
pub stated-steps : (w : State) → IsSound w → (m : Account) (walk : List ℕ) (to : ℕ) (ss : List Step)
    → m.walk ≡ Some walk → States w m to ss → steps_of w walk ≡ ss
stated-steps w sound m walk to ss given states =
    let t : IsTaken w m.player m.from to 1 1 ss = walk-to w sound m.player m.from to 1 1 ss states.walk in
    let both : Some walk ≡ Some (exits_of ss) = sym given ∙ states.stated in
    let exits : walk ≡ exits_of ss = cc in
    ap (steps_of w) exits ∙ t.same

pub stated-end : (w : State) → IsSound w → (m : Account) (to : ℕ) (ss : List Step)
    → States w m to ss → end_of m.from ss ≡ to
stated-end w sound m to ss states = (walk-to w sound m.player m.from to 1 1 ss states.walk).ends

-- no walk is given, or its label is that of the room where it ends
abbrev pub FitsLabel : State → Form → Account → Type 0
FitsLabel w form m = (m.walk ≡ None)
    ⊎ ((to : ℕ) × (ss : List Step) × States w m to ss × (label_at m to ≡ Some (total (hop_of form) ss)))

given-from : (w : State) → IsSound w → (form : Form) (m : Account) (o : Option (List ℕ)) → m.walk ≡ o
    → given_doubt w form m o ≡ None → FitsLabel w form m
given-from w sound form m None given e = inl given
given-from w sound form m (Some walk) given e =
    let xs : List ℕ = walk in
    let ss : List Step = steps_of w xs in
    let labelled : Bool = is_label (label_at m (end_of m.from ss)) (total (hop_of form) ss) in
    let one = or-none (option_map (λ i. doubts.WalkBroken m.player i) (first_break w m.from 1 xs))
    (option_map (λ i. doubts.WalkLocked m.player i) (first_lock w m.player 1 xs) or unless labelled
    (doubts.WalkCost m.player)) e in
    let two = or-none (option_map (λ i. doubts.WalkLocked m.player i) (first_lock w m.player 1 xs))
    (unless labelled (doubts.WalkCost m.player)) one.1 in
    let walks = walk-from w sound m.player m.from 1 1 xs
    (option-none (λ i. doubts.WalkBroken m.player i) (first_break w m.from 1 xs) one.0)
    (option-none (λ i. doubts.WalkLocked m.player i) (first_lock w m.player 1 xs) two.0) in
    inr (
      end_of m.from ss,
      ss,
      record { stated = given ∙ ap Some (sym (named w xs)); walk = walks },
      label-is (label_at m (end_of m.from ss)) (total (hop_of form) ss)
          (unless-none labelled (doubts.WalkCost m.player) two.1),
    )

given-to : (w : State) → IsSound w → (form : Form) (m : Account) → FitsLabel w form m
    → given_doubt w form m m.walk ≡ None
given-to w sound form m (inl none) = ap (given_doubt w form m) none
given-to w sound form m (inr (to, ss, states, label)) =
    let t : IsTaken w m.player m.from to 1 1 ss = walk-to w sound m.player m.from to 1 1 ss states.walk in
    let xs : List ℕ = exits_of ss in
    let b : option_map (λ n. doubts.WalkBroken m.player n) (first_break w m.from 1 xs) ≡ None =
    ap (λ o. option_map (λ n. doubts.WalkBroken m.player n) o) t.unbroken in
    let l : option_map (λ n. doubts.WalkLocked m.player n) (first_lock w m.player 1 xs) ≡ None =
    ap (λ o. option_map (λ n. doubts.WalkLocked m.player n) o) t.unlocked in
    let labelled : List Step → Bool = λ ss. is_label (label_at m (end_of m.from ss)) (total (hop_of form) ss) in
    let last : labelled (steps_of w xs) ≡ true =
    ap labelled t.same ∙ ap (λ r. is_label (label_at m r) (total (hop_of form) ss)) t.ends
    ∙ is-label (label_at m to) (total (hop_of form) ss) label in
    ap (given_doubt w form m) states.stated
    ∙ or-both (option_map (λ n. doubts.WalkBroken m.player n) (first_break w m.from 1 xs))
    (option_map (λ n. doubts.WalkLocked m.player n) (first_lock w m.player 1 xs) or unless (labelled (steps_of w xs))
    (doubts.WalkCost m.player)) b
    (or-both (option_map (λ n. doubts.WalkLocked m.player n) (first_lock w m.player 1 xs))
    (unless (labelled (steps_of w xs)) (doubts.WalkCost m.player)) l
    (unless-from (labelled (steps_of w xs)) (doubts.WalkCost m.player) last))

none-passes : (p : Account → Bool) (ms : List Account) → list_any p ms ≡ false → (k : ℕ) (d : Account)
    → k < length ms → p (get_or ms k d) ≡ false
none-passes p [] e k d lt = absurd (omega arith)
none-passes p (m ∷ ms) e zero d lt = (or_parts (p m) (list_any p ms) e).0
none-passes p (m ∷ ms) e (suc k) d lt = none-passes p ms (or_parts (p m) (list_any p ms) e).1 k d (omega arith)

-- the member is a player of the world, and not an earlier member
abbrev pub IsNew : State → List Account → Account → Type 0
IsNew w earlier m = (is_player w m.player ≡ true) × All (λ e. e.player ≢ m.player) earlier

-- the test of a new member, in both directions
pub new-from : (w : State) (earlier : List Account) (m : Account) → is_new w earlier m ≡ true → IsNew w earlier m
new-from w earlier m e =
    let test : Account → Bool = λ (x : Account). eqb x.player m.player in
    let p = and_parts (is_player w m.player) (not (list_any test earlier)) e in
    let apart : list_any test earlier ≡ false = not-true (list_any test earlier) p.1 in
    (p.0, λ k d lt. eqb-false (get_or earlier k d).player m.player (none-passes test earlier apart k d lt))

pub new-to : (w : State) (earlier : List Account) (m : Account) → IsNew w earlier m → is_new w earlier m ≡ true
new-to w earlier m n =
    let test : Account → Bool = λ (x : Account). eqb x.player m.player in
    let apart : list_any test earlier ≡ false =
    list_any_none test earlier (λ k d lt. ne_eqb (get_or earlier k d).player m.player (n.1 k d lt)) in
    and_from (is_player w m.player) (not (list_any test earlier)) n.0 (not_from_false (list_any test earlier) apart)

-- the member's start is labelled 0, and each labelled number is a room
abbrev pub IsStarted : State → Account → Type 0
IsStarted w m = (label_at m m.from ≡ Some start_label) × All (λ (e : ℕ × Label). is_room w e.0 ≡ true) m.labels

-- the test of a start, in both directions
pub started-from : (w : State) (m : Account) → is_started w m ≡ true → IsStarted w m
started-from w m e =
    let p = and_parts (is_label (label_at m m.from) start_label)
    (list_all (λ (e : ℕ × Label). is_room w e.0) m.labels) e in (
      label-is (label_at m m.from) start_label p.0,
      AllPass-from_list_all
          (λ (e : ℕ × Label). is_room w e.0) m.labels p.1,
    )

pub started-to : (w : State) (m : Account) → IsStarted w m → is_started w m ≡ true
started-to w m s =
    and_from (is_label (label_at m m.from) start_label) (list_all (λ (e : ℕ × Label). is_room w e.0) m.labels)
    (is-label (label_at m m.from) start_label s.0)
    (list_all-from_AllPass (λ (e : ℕ × Label). is_room w e.0) m.labels s.1)

-- the parts of a member's doubts
record NoDoubts (w : State) (form : Form) (earlier : List Account) (m : Account) : Type 0 where
  new : is_new w earlier m ≡ true
  placed : stands w m ≡ true
  started : is_started w m ≡ true
  arcs : find (breaks w form m) (numbers w) ≡ None
  given : given_doubt w form m m.walk ≡ None

parts-from : (w : State) (form : Form) (earlier : List Account) (m : Account)
    → member_doubt w form earlier m ≡ None → NoDoubts w form earlier m
parts-from w form earlier m e =
    let arc : Option Doubt = option_map (λ x. doubts.Arc m.player x) (find (breaks w form m) (numbers w)) in
    let walk : Option Doubt = given_doubt w form m m.walk in
    let start : Option Doubt = unless (is_started w m) (doubts.StartLabel m.player) in
    let place : Option Doubt = unless (stands w m) (doubts.WrongStart m.player) in
    let one = or-none (unless (is_new w earlier m) (doubts.NoSuchPlayer m.player)) (place or start or arc or walk) e in
    let two = or-none place (start or arc or walk) one.1 in
    let three = or-none start (arc or walk) two.1 in
    let four = or-none arc walk three.1 in
    record {
      new = unless-none (is_new w earlier m) (doubts.NoSuchPlayer m.player) one.0;
      placed = unless-none (stands w m) (doubts.WrongStart m.player) two.0;
      started = unless-none (is_started w m) (doubts.StartLabel m.player) three.0;
      arcs = option-none (λ x. doubts.Arc m.player x) (find (breaks w form m) (numbers w)) four.0;
      given = four.1;
    }

parts-to : (w : State) (form : Form) (earlier : List Account) (m : Account) → NoDoubts w form earlier m
    → member_doubt w form earlier m ≡ None
parts-to w form earlier m n =
    let arc : Option Doubt = option_map (λ x. doubts.Arc m.player x) (find (breaks w form m) (numbers w)) in
    let walk : Option Doubt = given_doubt w form m m.walk in
    let start : Option Doubt = unless (is_started w m) (doubts.StartLabel m.player) in
    let place : Option Doubt = unless (stands w m) (doubts.WrongStart m.player) in
    or-both (unless (is_new w earlier m) (doubts.NoSuchPlayer m.player)) (place or start or arc or walk)
    (unless-from (is_new w earlier m) (doubts.NoSuchPlayer m.player) n.new)
    (or-both place (start or arc or walk) (unless-from (stands w m) (doubts.WrongStart m.player) n.placed)
    (or-both start (arc or walk) (unless-from (is_started w m) (doubts.StartLabel m.player) n.started)
    (or-both arc walk (ap (λ o. option_map (λ x. doubts.Arc m.player x) o) n.arcs) n.given)))

member-from : (w : State) → IsSound w → (form : Form) (earlier : List Account) (m : Account)
    → NoDoubts w form earlier m → IsMember w form m
member-from w sound form earlier m n =
    let s : IsStarted w m = started-from w m n.started in
    record {
      player = (new-from w earlier m n.new).0;
      place = placed (place_of w m.player) m.from n.placed;
      rooms = s.1;
      labels = record { start = s.0; steps = steps-from w sound form m n.arcs };
      walk = given-from w sound form m m.walk refl n.given;
    }

member-to : (w : State) → IsSound w → (form : Form) (earlier : List Account) (m : Account)
    → All (λ e. e.player ≢ m.player) earlier → IsMember w form m → NoDoubts w form earlier m
member-to w sound form earlier m apart i = record {
  new = new-to w earlier m (i.player, apart);
  placed = ap (is_number m.from) i.place ∙ eq-eqb m.from m.from refl;
  started = started-to w m (i.labels.start, i.rooms);
  arcs = steps-to w sound form m i.labels;
  given = given-to w sound form m i.walk;
}

pub members-from : (w : State) → IsSound w → (form : Form) (earlier ms : List Account) → AllPairs Apart earlier
    → members_doubt w form earlier ms ≡ None
    → AllPairs Apart (earlier ++ ms) × All (IsMember w form) ms
members-from w sound form earlier [] pairs e =
    let P : List Account → Type 0 = λ xs. AllPairs Apart xs in
    (subst P (sym (append-nil earlier)) pairs, All-nil (IsMember w form))
members-from w sound form earlier (m ∷ ms) pairs e =
    let two = or-none (member_doubt w form earlier m) (members_doubt w form (earlier ++ m ∷ []) ms) e in
    let n : NoDoubts w form earlier m = parts-from w form earlier m two.0 in
    let more : AllPairs Apart (earlier ++ m ∷ []) =
    all_pairs_push Apart earlier m pairs (new-from w earlier m n.new).1 in
    let rest = members-from w sound form (earlier ++ m ∷ []) ms more two.1 in
    let P : List Account → Type 0 = λ xs. AllPairs Apart xs in (
      subst P (append_assoc earlier (m ∷ []) ms) rest.0,
      All-cons (IsMember w form) m ms
          (member-from w sound form earlier m n) rest.1,
    )

pub members-to : (w : State) → IsSound w → (form : Form) (earlier ms : List Account) → AllPairs Apart (earlier ++ ms)
    → All (IsMember w form) ms → members_doubt w form earlier ms ≡ None
members-to w sound form earlier [] pairs all = refl
members-to w sound form earlier (m ∷ ms) pairs all =
    let P : List Account → Type 0 = λ xs. AllPairs Apart xs in
    or-both (member_doubt w form earlier m) (members_doubt w form (earlier ++ m ∷ []) ms)
    (parts-to w form earlier m (member-to w sound form earlier m two (All-head (IsMember w form) m ms all)))
    (members-to w sound form (earlier ++ m ∷ []) ms (subst P (sym (append_assoc earlier (m ∷ []) ms)) pairs)
    (All-tail (IsMember w form) m ms all))
  where
    two : (k : ℕ) (d : Account) → k < length earlier → Apart (get_or earlier k d) m
    two k d lt =
        let far : Apart (get_or (earlier ++ m ∷ ms) k d) (get_or (earlier ++ m ∷ ms) (length earlier) d) =
        pairs k (length earlier) d lt (omega (arith, length-append earlier (m ∷ ms))) in
        let P : Account → Type 0 = λ a. Apart a m in
        let Q : Account → Type 0 = λ b. Apart (get_or (earlier ++ m ∷ ms) k d) b in
        let zeroed : length earlier - length earlier ≡ 0 = omega arith in
        let at : get_or (earlier ++ m ∷ ms) (length earlier) d ≡ m = get_or-append_right earlier (m ∷ ms)
        (length earlier) (length earlier) d refl (omega arith) ∙ ap (λ n. get_or (m ∷ ms) n d) zeroed in
        subst P (get_or_append_left earlier (m ∷ ms) d k lt) (subst Q at far)
