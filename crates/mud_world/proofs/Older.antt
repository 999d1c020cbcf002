-- New objects leave unlocked what was, and locked what was.
use Rattle.std.proofs.Common.{◌≡◌, ℕ, zero, suc, ◌+◌, ◌<◌, ◌≤◌, Bool, true, false, ◌||◌, ◌&&◌, List, length, Option}
use Rattle.std.proofs.Common.{Some}
use Rattle.std.proofs.Common.{None, refl, sym, ◌∙◌, ap, arith, ⊎_elim}
use Rattle.std.specs.Prelude.{nat_eq, is_some, is_none, IfSome}
use Rattle.std.specs.Option.{option_map_or, option_and_then}
use Rattle.std.specs.List.{enumerate_from}
use Rattle.std.proofs.lemmas.Bool.{cases_lt}
use Rattle.mud_key.specs.Tree.{Tree, AllObjects}
use Rattle.mud_world.specs.declared.record.Record.{Record}
use Rattle.mud_world.specs.Truth.{key_true}
use Rattle.mud_world.specs.Kinds.{kind_place}
use Rattle.mud_world.specs.State.{State, record_at, has, place_of, follow, comes_to, within, unlocked_in, unlocked}
use Rattle.mud_world.specs.Sound.{IsSound}
use Rattle.mud_world.specs.Legal.{with_new}
use Rattle.mud_world.proofs.Records.{bool_cases, record_cases, lookup-append_left, lookup-append_right}
use Rattle.mud_world.proofs.Places.{option_cases, comes_to-false, comes_to-true, ends_by-bound}
use Rattle.mud_world.proofs.Moving.{place-below}
use Rattle.mud_world.proofs.Containing.{follow-past}
use Rattle.mud_world.proofs.Removing.{lookup-below}
use Rattle.mud_world.proofs.Adding.{IsRising-numbered}
use Rattle.mud_world.proofs.Named.{truth-alike}

module _ (w : State) (sound : IsSound w) (rs : List Record) where
  abbrev w' : State
  w' = with_new w rs

  -- the record of a number that was given does not change
  pub record-kept : (n : ℕ) → n < w.next → record_at w' n ≡ record_at w n
  record-kept n below =
      record_cases (record_at w n)
      (λ e. lookup-append_right n w.objects (enumerate_from w.next rs) e
      ∙ lookup-below n w.next (w.next + length rs) (enumerate_from w.next rs) (IsRising-numbered w.next rs) below
      ∙ sym e)
      (λ r e. lookup-append_left n r w.objects (enumerate_from w.next rs) e ∙ sym e)

  -- following places from it comes to the same objects
  comes_kept : (n o c : ℕ) → o < w.next → comes_to w' n o c ≡ comes_to w n o c
  comes_kept zero o c below = refl
  comes_kept (suc n) o c below =
      ap (λ v. nat_eq o c || option_map_or (λ p. comes_to w' n p c) (option_and_then (λ r. kind_place r.kind) v) false)
      (record-kept o below)
      ∙ option_cases (place_of w o)
      (λ e. ap (λ v. nat_eq o c || option_map_or (λ p. comes_to w' n p c) v false) e
      ∙ sym (ap (λ v. nat_eq o c || option_map_or (λ p. comes_to w n p c) v false) e))
      (λ p e. ap (λ v. nat_eq o c || option_map_or (λ p. comes_to w' n p c) v false) e
      ∙ ap (λ b. nat_eq o c || b) (comes_kept n p c (place-below w sound o p e))
      ∙ sym (ap (λ v. nat_eq o c || option_map_or (λ p. comes_to w n p c) v false) e))

  -- in as many steps as there are objects, and in more
  comes_more : (n o c : ℕ) → w.next ≤ n → o < w.next → comes_to w n o c ≡ comes_to w w.next o c
  comes_more n o c le below =
      bool_cases (comes_to w n o c)
      (λ e.
      let met = comes_to-true w n o c e in
      bool_cases (comes_to w w.next o c)
      (λ f. e ∙ sym f)
      (λ f. absurd
      (⊎_elim
      (λ (lt : met.0 < w.next). comes_to-false w w.next o c met.0 lt f met.2)
      (λ (past : w.next ≤ met.0).
      let bad : None ≡ Some c = sym (follow-past w w.next met.0 o past ends) ∙ met.2 in cc)
      (cases_lt met.0 w.next))))
      (λ e.
      bool_cases (comes_to w w.next o c)
      (λ f.
      let met = comes_to-true w w.next o c f in
      absurd (comes_to-false w n o c met.0 (let lt = met.1 in omega (arith, lt, le)) e met.2))
      (λ f. e ∙ sym f))
    where
      ends : follow w w.next o ≡ None
      ends = ends_by-bound w w.next (place-below w sound) sound.no_circle o below

  pub within-kept : (o c : ℕ) → o < w.next → within w' o c ≡ within w o c
  within-kept o c below =
      ap (λ v. is_some v && comes_to w' w'.next o c) (record-kept o below)
      ∙ ap (λ b. is_some (record_at w o) && b)
      (comes_kept (w.next + length rs) o c below ∙ comes_more (w.next + length rs) o c (omega arith) below)

  -- a key of the world names none of the new objects, so it is as true as it was
  key_kept : (held held' asked asked' : ℕ → Bool) → ((o : ℕ) → o < w.next → held' o ≡ held o)
      → ((o : ℕ) → o < w.next → asked' o ≡ asked o) → (o : ℕ) → o < w.next
      → has w' o (λ r. option_map_or (key_true held' asked') r.key true)
      ≡ has w o (λ r. option_map_or (key_true held asked) r.key true)
  key_kept held held' asked asked' same like o below =
      ap (λ v. option_map_or (λ r. option_map_or (key_true held' asked') r.key true) v false) (record-kept o below)
      ∙ record_cases (record_at w o)
      (λ e. ap (λ v. option_map_or (λ r. option_map_or (key_true held' asked') r.key true) v false) e
      ∙ sym (ap (λ v. option_map_or (λ r. option_map_or (key_true held asked) r.key true) v false) e))
      (λ r e. ap (λ v. option_map_or (λ r. option_map_or (key_true held' asked') r.key true) v false) e
      ∙ of_key r.key (sound.made o r e)
      ∙ sym (ap (λ v. option_map_or (λ r. option_map_or (key_true held asked) r.key true) v false) e))
    where
      of_key : (k : Option (Tree ℕ)) → IfSome k (AllObjects (λ o. o < w.next))
          → option_map_or (key_true held' asked') k true ≡ option_map_or (key_true held asked) k true
      of_key None named = refl
      of_key (Some k) named = truth-alike held' held asked' asked (λ o. o < w.next) same like k named

  levels_kept : (n c o : ℕ) → o < w.next
      → unlocked_in w' n (λ a. within w' a c) o ≡ unlocked_in w n (λ a. within w a c) o
  levels_kept zero c o below =
      ap (λ v. option_map_or (λ r. is_none r.key) v false) (record-kept o below)
  levels_kept (suc n) c o below =
      key_kept (λ a. within w a c) (λ a. within w' a c) (unlocked_in w n (λ a. within w a c))
      (unlocked_in w' n (λ a. within w' a c)) (λ a lt. within-kept a c lt) (λ a lt. levels_kept n c a lt) o below

  -- an object of the world is unlocked for the same objects as before
  pub unlocked-kept : (c o : ℕ) → o < w.next → unlocked w' c o ≡ unlocked w c o
  unlocked-kept c o below = levels_kept 4 c o below
