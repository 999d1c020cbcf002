-- The effect of the units of an input on a session.
use Rattle.std.proofs.Common.{◌≡◌, ℕ, ◌+◌, ◌<◌, Bool, true, false, List, [], ◌∷◌, ◌++◌, Option, Some, map, take, get_or}
use Rattle.std.proofs.Common.{length, refl, sym, ap, subst, ◌∙◌, append_assoc, inl, inr, Global}
use Rattle.std.specs.Prelude.{◌||◌}
use Rattle.std.proofs.lemmas.Bool.{cases_Bool, true≢false}
use Rattle.std.proofs.lemmas.List.{append-nil, take_more, map_push, map-append}
use Rattle.mud_nvt.specs.declared.Unit.{Unit as CodeUnit}
use Rattle.mud_nvt.specs.Units.{Given, units}
use Rattle.mud_nvt.specs.History.{StandsAfter}
use Rattle.mud_nvt.specs.UnitViews.{unit_shown, all_shown}
use Rattle.mud_session.specs.State.{SessionState, DoorState}
use Rattle.mud_session.specs.Session.{TakingIn, Does, is_last, is_over, text_of}
use Rattle.mud_session.specs.Feeds.{Feeds}
use Rattle.mud_session.specs.inner.TurnTexts.{HasTurn}
use Rattle.mud_session.specs.inner.Feeding.{SoFar, Fed}
use Rattle.mud_session.proofs.Playing.{unit_in, text_in, joined, is_over-append, text_of-append}

pub SoFar-none : (T : TakingIn) (s : SessionState) (d : DoorState) → s.has_ended ≡ false → SoFar T [] s s d d
SoFar-none T s d goes = record {
  play = record { turns = []; left = []; units_are = refl; plays = refl };
  capacity = refl;
  ended = goes;
  all = λ _. refl;
  out = sym (append-nil s.out);
}

turned : (T : TakingIn) (us : List Given) (u : Given) (a b c : SessionState) (da db dc : DoorState)
    → SoFar T us a b da db → b.has_ended ≡ false → dc.capacity ≡ db.capacity → HasTurn T u b c db dc
    → SoFar T (us ++ u ∷ []) a c da dc
turned T us u a b c da db dc so_far goes capacity has =
    let turns = so_far.play.turns in
    let turn = has.turn in
    let going : is_over turns ≡ false = sym so_far.ended ∙ goes in
    let is : map Some us ≡ map unit_in turns =
    so_far.play.units_are ∙ ap (λ (l : List Given). map unit_in turns ++ map Some l) (so_far.all goes)
    ∙ append-nil (map unit_in turns) in
    record {
      play = joined us turns is going so_far.play.plays
          (record {
            turns = turn ∷ [];
            left = [];
            units_are = ap (λ (o : Option Given). o ∷ []) (sym has.of);
            plays = (
              dc.desk,
              subst (λ (n : ℕ). Does T n db.desk turn.case turn.notices dc.desk) so_far.capacity has.does,
              λ _. refl,
              refl,
            );
          });
      capacity = capacity ∙ so_far.capacity;
      ended = has.ended ∙ sym (or-false (is_last turn.case)) ∙ sym (is_over-append turns (turn ∷ []) going);
      all = λ _. refl;
      out = has.out ∙ ap (λ (l : List ℕ). l ++ text_in turn) so_far.out
          ∙ append_assoc a.out (text_of turns) (text_in turn)
          ∙ ap (λ (l : List ℕ). a.out ++ (text_of turns ++ l)) (sym (append-nil (text_in turn)))
          ∙ ap (λ (l : List ℕ). a.out ++ l) (sym (text_of-append turns (turn ∷ [])));
    }
  where
    or-false : (b : Bool) → b || false ≡ b
    or-false true = refl
    or-false false = refl

passed_over : (T : TakingIn) (us : List Given) (u : Given) (a b : SessionState) (da db : DoorState)
    → SoFar T us a b da db → b.has_ended ≡ true → SoFar T (us ++ u ∷ []) a b da db
passed_over T us u a b da db so_far over =
    let turns = so_far.play.turns in
    let left = so_far.play.left in
    record {
      play = record {
        turns = turns;
        left = left ++ u ∷ [];
        units_are = map-append Some us (u ∷ []) ∙ ap (λ l. l ++ Some u ∷ []) so_far.play.units_are
            ∙ append_assoc (map unit_in turns) (map Some left) (Some u ∷ [])
            ∙ ap (λ l. map unit_in turns ++ l) (sym (map-append Some left (u ∷ [])));
        plays = so_far.play.plays;
      };
      capacity = so_far.capacity;
      ended = so_far.ended;
      all = λ goes. absurd (true≢false (sym over ∙ goes));
      out = so_far.out;
    }

shown_more : (units : List (CodeUnit Global)) (i : ℕ) (unit : CodeUnit Global) → i < length units
    → unit ≡ get_or units i unit
    → all_shown (take (i + 1) units) ≡ all_shown (take i units) ++ unit_shown unit ∷ []
shown_more units i unit lt here =
    ap all_shown (take_more units i unit lt) ∙ map_push unit_shown (take i units) (get_or units i unit)
    ∙ ap (λ u. all_shown (take i units) ++ unit_shown u ∷ []) (sym here)

-- one more unit
pub SoFar-more : (T : TakingIn) (xs : List Given) (units : List (CodeUnit Global)) (i : ℕ) (unit : CodeUnit Global)
    (a b c : SessionState) (da db dc : DoorState)
    → i < length units → unit ≡ get_or units i unit → SoFar T (xs ++ all_shown (take i units)) a b da db
    → dc.capacity ≡ db.capacity
    → (b.has_ended ≡ true → (c ≡ b) × (dc ≡ db)) → (b.has_ended ≡ false → HasTurn T (unit_shown unit) b c db dc)
    → SoFar T (xs ++ all_shown (take (i + 1) units)) a c da dc
SoFar-more T xs units i unit a b c da db dc lt here so_far capacity over turn =
    let was = xs ++ all_shown (take i units) in
    let us = was ++ unit_shown unit ∷ [] in
    subst (λ (l : List Given). SoFar T l a c da dc)
    (append_assoc xs (all_shown (take i units)) (unit_shown unit ∷ [])
    ∙ ap (λ l. xs ++ l) (sym (shown_more units i unit lt here)))
    (elim (cases_Bool b.has_ended) as (λ _. SoFar T us a c da dc) [
      | inl e ↦ subst (λ (s : SessionState). SoFar T us a s da dc) (sym (over e).0)
          (subst (λ (d : DoorState). SoFar T us a b da d) (sym (over e).1)
          (passed_over T was (unit_shown unit) a b da db so_far e))
      | inr e ↦ turned T was (unit_shown unit) a b c da db dc so_far e capacity (turn e)
    ])

-- no more unit
pub SoFar-start : (T : TakingIn) (xs : List Given) (a b : SessionState) (da db : DoorState)
    → SoFar T xs a b da db → SoFar T (xs ++ []) a b da db
SoFar-start T xs a b da db so_far = subst (λ (l : List Given). SoFar T l a b da db) (sym (append-nil xs)) so_far

-- the terminal of the session does not matter
pub SoFar-terminal : (T : TakingIn) (us : List Given) (a b c : SessionState) (da db : DoorState)
    → c.has_ended ≡ b.has_ended → c.out ≡ b.out → SoFar T us a b da db → SoFar T us a c da db
SoFar-terminal T us a b c da db ended out so_far = record {
  play = so_far.play;
  capacity = so_far.capacity;
  ended = ended ∙ so_far.ended;
  all = λ goes. so_far.all (sym ended ∙ goes);
  out = out ∙ so_far.out;
}

-- before any byte
pub Fed-none : (T : TakingIn) (earlier : List ℕ) (s : SessionState) (d : DoorState) → s.has_ended ≡ false
    → StandsAfter s.terminal earlier → Fed T earlier [] s s d d
Fed-none T earlier s d goes stands = record {
  stands = subst (StandsAfter s.terminal) (sym (append-nil earlier)) stands;
  fresh = [];
  units = ap units (append-nil earlier) ∙ sym (append-nil (units earlier));
  so_far = SoFar-none T s d goes;
}

-- after more bytes, whose units had their turns
pub Fed-more : (T : TakingIn) (earlier bytes more : List ℕ) (old was new : SessionState)
    (old_door was_door new_door : DoorState) (us : List Given)
    → (fed : Fed T earlier bytes old was old_door was_door)
    → StandsAfter new.terminal ((earlier ++ bytes) ++ more)
    → units ((earlier ++ bytes) ++ more) ≡ units (earlier ++ bytes) ++ us
    → SoFar T (fed.fresh ++ us) old new old_door new_door
    → Fed T earlier (bytes ++ more) old new old_door new_door
Fed-more T earlier bytes more old was new old_door was_door new_door us fed stands more_units so_far = record {
  stands = subst (StandsAfter new.terminal) (append_assoc earlier bytes more) stands;
  fresh = fed.fresh ++ us;
  units = ap units (sym (append_assoc earlier bytes more)) ∙ more_units ∙ ap (λ l. l ++ us) fed.units
      ∙ append_assoc (units earlier) fed.fresh us;
  so_far = so_far;
}

-- all bytes
pub Feeds-from : (T : TakingIn) (earlier bytes : List ℕ) (old new : SessionState) (old_door new_door : DoorState)
    → old.has_ended ≡ false → Fed T earlier bytes old new old_door new_door
    → Feeds T earlier bytes old new old_door new_door
Feeds-from T earlier bytes old new old_door new_door goes fed = record {
  stands = fed.stands;
  fresh = fed.fresh;
  units = fed.units;
  play = fed.so_far.play;
  goes_on = goes;
  ended = fed.so_far.ended;
  all = fed.so_far.all;
  out = fed.so_far.out;
}

-- a unit leaves the terminal as it is
pub same_terminal : (T : TakingIn) (u : Given) (b c : SessionState) (db dc : DoorState)
    → (b.has_ended ≡ true → (c ≡ b) × (dc ≡ db)) → (b.has_ended ≡ false → HasTurn T u b c db dc)
    → c.terminal ≡ b.terminal
same_terminal T u b c db dc over turn =
    elim (cases_Bool b.has_ended) as (λ _. c.terminal ≡ b.terminal) [
      | inl e ↦ ap (λ (s : SessionState). s.terminal) (over e).0
      | inr e ↦ (turn e).terminal
    ]
