-- The output of a session from its beginning on.
use Rattle.std.proofs.Common.{◌≡◌, ℕ, false, List, [], ◌∷◌, ◌++◌, Option, Some, map}
use Rattle.std.proofs.Common.{refl, sym, ◌∙◌, ap, subst, append_assoc, append-nil}
use Rattle.std.specs.List.{flat_map}
use Rattle.std.specs.Option.{option_to_list}
use Rattle.std.proofs.lemmas.Grind.{flat_map-append}
use Rattle.mud_nvt.specs.Units.{Given, units}
use Rattle.mud_nvt.specs.History.{StandsAfter}
use Rattle.mud_hall.specs.Desk.{DeskState, TakesIn}
use Rattle.mud_session.specs.State.{SessionState, DoorState}
use Rattle.mud_session.specs.Session.{Looks, Does, Turn, Plays, unit_of, is_over, wire_text, text_of}
use Rattle.mud_session.specs.Feeds.{Feeds, Nudges}
use Rattle.mud_session.specs.Talks.{units_of, Start, next_start, as_begun, IsTalk}
use Rattle.mud_session.specs.Laws.{TalksGoOn}
use Rattle.mud_session.proofs.Playing.{unit_in, Plays-append, is_over-append, text_of-append}
use Rattle.mud_session.proofs.Calling.{turns_are_calls}

some-inj : {A : Type 0} (x y : A) → Some x ≡ Some y → x ≡ y
some-inj x y e = cc

same-units : (us vs : List Given) → map Some us ≡ map Some vs → us ≡ vs
same-units [] [] e = refl
same-units [] (v ∷ vs) e = absurd (cc)
same-units (u ∷ us) [] e = absurd (cc)
same-units (u ∷ us) (v ∷ vs) e =
    let head : Some u ≡ Some v = cc in
    let tail : map Some us ≡ map Some vs = cc in
    ap (λ (x : Given). x ∷ us) (some-inj u v head) ∙ ap (λ (xs : List Given). v ∷ xs) (same-units us vs tail)

-- units that had their turns, and those that remain
units-are : (us : List Given) (turns : List Turn) (left : List Given)
    → map Some us ≡ map unit_in turns ++ map Some left → us ≡ units_of turns ++ left
units-are us [] left e = same-units us left e
units-are [] (turn ∷ turns) left e = absurd (cc)
units-are (u ∷ us) (turn ∷ turns) left e =
    let head : Some u ≡ unit_in turn = cc in
    let tail : map Some us ≡ map unit_in turns ++ map Some left = cc in
    ap (λ (xs : List Given). u ∷ xs) (units-are us turns left tail)
    ∙ ap (λ (o : Option Given). (option_to_list o ++ units_of turns) ++ left) head

units-append : (xs ys : List Turn) → units_of (xs ++ ys) ≡ units_of xs ++ units_of ys
units-append xs ys = flat_map-append (λ (turn : Turn). option_to_list (unit_of turn.case)) xs ys

-- no unit waits for its turn
all_played : (capacity : ℕ) (start : Start) (typed sent : List ℕ) (session : SessionState) (desk : DeskState)
    → (t : IsTalk capacity start typed sent session desk) → t.left ≡ []
    → units typed ≡ start.units ++ units_of t.turns
all_played capacity start typed sent session desk t none =
    t.given
    ∙ ap (λ (xs : List Given). start.units ++ xs)
    (ap (λ (xs : List Given). units_of t.turns ++ xs) none ∙ append-nil (units_of t.turns))

-- ---- one piece of input

fed : (capacity : ℕ) (start : Start) (typed sent bytes : List ℕ) (old new : SessionState) (was is : DoorState)
    → was.capacity ≡ capacity → IsTalk capacity start typed sent old was.desk
    → Feeds TakesIn typed bytes old new was is → IsTalk capacity start (typed ++ bytes) sent new is.desk
fed capacity start typed sent bytes old new was is same t f =
    let going : is_over t.turns ≡ false = sym t.over ∙ f.goes_on in
    let none : t.left ≡ [] = t.all f.goes_on in
    let more : List Turn = f.play.turns in
    record {
      first = t.first;
      begun = t.begun;
      turns = t.turns ++ more;
      plays = Plays-append TakesIn capacity t.first was.desk is.desk t.turns more going t.plays
          (subst (λ (n : ℕ). Plays TakesIn n was.desk more is.desk) same f.play.plays);
      over = f.ended ∙ sym (is_over-append t.turns more going);
      stands = f.stands;
      left = f.play.left;
      given = f.units
          ∙ ap (λ (xs : List Given). xs ++ f.fresh) (all_played capacity start typed sent old was.desk t none)
          ∙ append_assoc start.units (units_of t.turns) f.fresh
          ∙ ap (λ (xs : List Given). start.units ++ xs)
          (ap (λ (xs : List Given). units_of t.turns ++ xs) (units-are f.fresh more f.play.left f.play.units_are)
          ∙ sym (append_assoc (units_of t.turns) (units_of more) f.play.left)
          ∙ ap (λ (xs : List Given). xs ++ f.play.left) (sym (units-append t.turns more)));
      all = f.all;
      says = ap (λ (xs : List ℕ). start.text ++ xs) (text_of-append t.turns more)
          ∙ sym (append_assoc start.text (text_of t.turns) (text_of more))
          ∙ ap (λ (xs : List ℕ). xs ++ text_of more) t.says
          ∙ append_assoc sent old.out (text_of more)
          ∙ ap (λ (xs : List ℕ). sent ++ xs) (sym f.out);
    }

-- ---- one look

nudged : (capacity : ℕ) (start : Start) (typed sent : List ℕ) (old new : SessionState) (was is : DoorState)
    → was.capacity ≡ capacity → IsTalk capacity start typed sent old was.desk → Nudges TakesIn old new was is
    → IsTalk capacity start typed sent new is.desk
nudged capacity start typed sent old new was is same t n =
    let going : is_over t.turns ≡ false = sym t.over ∙ n.goes_on in
    let turn : Turn = record { case = Looks; notices = n.lines } in
    let said : List ℕ = flat_map wire_text n.lines in
    let one : Plays TakesIn capacity was.desk (turn ∷ []) is.desk = (
      is.desk,
      subst (λ (c : ℕ). Does TakesIn c was.desk Looks n.lines is.desk) same n.looks,
      λ last. refl,
      refl,
    ) in
    let spoken : text_of (turn ∷ []) ≡ said = append-nil (said ++ []) ∙ append-nil said in
    record {
      first = t.first;
      begun = t.begun;
      turns = t.turns ++ turn ∷ [];
      plays = Plays-append TakesIn capacity t.first was.desk is.desk t.turns (turn ∷ []) going t.plays one;
      over = ap (λ (s : SessionState). s.has_ended) n.is ∙ n.goes_on
          ∙ sym (is_over-append t.turns (turn ∷ []) going);
      stands = subst (λ (s : SessionState). StandsAfter s.terminal typed) (sym n.is) t.stands;
      left = t.left;
      given = t.given ∙ ap (λ (xs : List Given). start.units ++ (xs ++ t.left))
          (sym (append-nil (units_of t.turns)) ∙ sym (units-append t.turns (turn ∷ [])));
      all = λ going. t.all n.goes_on;
      says = ap (λ (xs : List ℕ). start.text ++ xs) (text_of-append t.turns (turn ∷ []))
          ∙ sym (append_assoc start.text (text_of t.turns) (text_of (turn ∷ [])))
          ∙ ap (λ (xs : List ℕ). xs ++ text_of (turn ∷ [])) t.says
          ∙ append_assoc sent old.out (text_of (turn ∷ []))
          ∙ ap (λ (xs : List ℕ). sent ++ (old.out ++ xs)) spoken
          ∙ ap (λ (s : SessionState). sent ++ s.out) (sym n.is);
    }

-- ---- a hall after another one

-- a talk begins
begun : (capacity : ℕ) (start : Start) (typed sent : List ℕ) (session : SessionState) (desk : DeskState)
    → StandsAfter session.terminal typed → session.has_ended ≡ false → units typed ≡ start.units
    → start.text ≡ sent ++ session.out → IsTalk capacity start typed sent session (as_begun start.player desk)
begun capacity start typed sent session desk stands going given says = record {
  first = as_begun start.player desk;
  begun = refl;
  turns = [];
  plays = refl;
  over = going;
  stands = stands;
  left = [];
  given = given ∙ sym (append-nil start.units);
  all = λ going. refl;
  says = append-nil start.text ∙ says;
}

-- it goes on at the next hall
moved : (capacity : ℕ) (start : Start) (typed sent : List ℕ) (session : SessionState) (desk next : DeskState) (room : ℕ)
    (player : Option ℕ) → session.has_ended ≡ false → (t : IsTalk capacity start typed sent session desk)
    → IsTalk room (next_start start t.turns player) typed sent session (as_begun player next)
moved capacity start typed sent session desk next room player going t =
    begun room (next_start start t.turns player) typed sent session next t.stands going
    (all_played capacity start typed sent session desk t (t.all going)) t.says

pub talks_go_on : (capacity : ℕ) (start : Start) → TalksGoOn capacity start
talks_go_on capacity start = record {
  begins = begun capacity start;
  sends = λ typed sent session desk t. record {
    first = t.first;
    begun = t.begun;
    turns = t.turns;
    plays = t.plays;
    over = t.over;
    stands = t.stands;
    left = t.left;
    given = t.given;
    all = t.all;
    says = t.says ∙ sym (append-nil (sent ++ session.out));
  };
  feeds = fed capacity start;
  nudges = nudged capacity start;
  moves = moved capacity start;
  front = λ typed sent session desk t. (session.out, sym t.says);
  calls = λ typed sent session desk t. turns_are_calls capacity t.first desk t.turns t.plays;
}
