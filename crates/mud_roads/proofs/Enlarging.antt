-- The roads by the exits that pass a test, when objects are added.
use Rattle.std.proofs.Common.{◌≡◌, ℕ, ◌+◌, ◌-◌, ◌<◌, ◌≤◌, Bool, true, false, ◌&&◌, cond, List, [], ◌∷◌, ◌++◌}
use Rattle.std.proofs.Common.{length, map, Option, Some, None, refl, sym, ◌∙◌, ap, arith}
use Rattle.std.specs.Prelude.{nat_eq}
use Rattle.std.specs.Option.{option_map, option_map_or, option_and_then}
use Rattle.std.specs.List.{enumerate_from, filter_map, cons_option, list_any, range_with_len}
use Rattle.std.specs.Map.{lookup}
use Rattle.std.proofs.lemmas.Bool.{ne_eqb, eq-eqb, or_left, or_right}
use Rattle.std.proofs.lemmas.List.{map-append, map-id}
use Rattle.std.proofs.lemmas.List.FromFn.{map-range_with_len_more}
use Rattle.std.proofs.lemmas.List.Elements.{filter_map-append, filter-append}
use Rattle.mud_world.specs.declared.record.Passage.{Passage}
use Rattle.mud_world.specs.declared.record.Record.{Record}
use Rattle.mud_world.specs.Kinds.{kind_passage}
use Rattle.mud_world.specs.State.{State, record_at, is_number, passage_of, source_of, leaving_of}
use Rattle.mud_world.specs.Sound.{IsSound}
use Rattle.mud_world.specs.Legal.{with_new}
use Rattle.mud_world.proofs.Adding.{IsRising-numbered}
use Rattle.mud_world.proofs.Carrying.{missing-above}
use Rattle.mud_world.proofs.Listed.{leaving_law}
use Rattle.mud_world.proofs.Numbering.{passing, passing_by}
use Rattle.mud_world.proofs.Older.{record-kept}
use Rattle.mud_world.proofs.Records.{bool_cases, record_cases, in_bounds, lookup-append_right}
use Rattle.mud_roads.specs.declared.label.Step.{Step}
use Rattle.mud_roads.specs.Passable.{step_by, tested_step, tested_roads}
use Rattle.mud_roads.specs.inner.Growing.{step_from}
use Rattle.mud_roads.proofs.Roads.{passage_cases, passage-well, room-below}

-- the numbers from one to another, and one more
pub numbers-more : (low n : ℕ) → low ≤ n → range_with_len low (n + 1 - low) ≡ range_with_len low (n - low) ++ n ∷ []
numbers-more low n le =
    let next : n + 1 - low ≡ n - low + 1 = omega (arith, le) in
    ap (range_with_len low) next
    ∙ sym (map-id (range_with_len low (n - low + 1)))
    ∙ map-range_with_len_more (λ (k : ℕ). k) low (n - low) n (omega (arith, le))
    ∙ ap (λ (ns : List ℕ). ns ++ n ∷ []) (map-id (range_with_len low (n - low)))

-- two functions that agree on a list give it the same steps
filter_map-alike : (f g : ℕ → Option Step) (xs : List ℕ) → ((n : ℕ) → list_any (nat_eq n) xs ≡ true → f n ≡ g n)
    → filter_map f xs ≡ filter_map g xs
filter_map-alike f g [] same = refl
filter_map-alike f g (x ∷ xs) same =
    ap (λ v. cons_option v (filter_map f xs)) (same x (or_left (nat_eq x x) (list_any (nat_eq x) xs) (eq-eqb x x refl)))
    ∙ ap (cons_option (g x))
    (filter_map-alike f g xs (λ n among. same n (or_right (nat_eq n x) (list_any (nat_eq n) xs) among)))

-- the records that pass a test give the steps of their numbers
abbrev AreNew : (ℕ → Option Step) → (ℕ → Option Step) → (Record → Bool) → ℕ → List Record → Type 0
AreNew f g test low rs =
    (n : ℕ) (r : Record) → lookup (nat_eq n) (enumerate_from low rs) ≡ Some r → g n ≡ cond (test r) (f n) None

later_new : (f g : ℕ → Option Step) (test : Record → Bool) (low : ℕ) (r : Record) (rs : List Record)
    → AreNew f g test low (r ∷ rs) → AreNew f g test (low + 1) rs
later_new f g test low r rs same = λ n s at.
    let above = (in_bounds (low + 1) (low + 1 + length rs) n s (enumerate_from (low + 1) rs)
    (IsRising-numbered (low + 1) rs) at).0 in
    same n s (ap (λ b. cond b (Some r) (lookup (nat_eq n) (enumerate_from (low + 1) rs)))
    (ne_eqb n low (λ same. omega (arith, above, same))) ∙ at)

of_new : (f g : ℕ → Option Step) (test : Record → Bool) (low : ℕ) (rs : List Record) → AreNew f g test low rs
    → filter_map f (passing test (enumerate_from low rs)) ≡ filter_map g (range_with_len low (length rs))
of_new f g test low [] same = refl
of_new f g test low (r ∷ rs) same =
    let rest = of_new f g test (low + 1) rs (later_new f g test low r rs same) in
    let first : g low ≡ cond (test r) (f low) None =
    same low r (ap (λ b. cond b (Some r) (lookup (nat_eq low) (enumerate_from (low + 1) rs))) (eq-eqb low low refl)) in
    bool_cases (test r)
    (λ e. ap (filter_map f) (passing_by test (low, r) (enumerate_from (low + 1) rs) true e)
    ∙ ap (cons_option (f low)) rest
    ∙ sym (ap (λ v. cons_option v (filter_map g (range_with_len (low + 1) (length rs))))
    (first ∙ ap (λ b. cond b (f low) None) e)))
    (λ e. ap (filter_map f) (passing_by test (low, r) (enumerate_from (low + 1) rs) false e)
    ∙ rest
    ∙ sym (ap (λ v. cons_option v (filter_map g (range_with_len (low + 1) (length rs))))
    (first ∙ ap (λ b. cond b (f low) None) e)))

-- the tests agree on the numbers that were given
module _ (w : State) (sound : IsSound w) (rs : List Record) (test test' : ℕ → Bool)
    (same : (n : ℕ) → n < w.next → test' n ≡ test n) (room : ℕ) where
  abbrev w' : State
  w' = with_new w rs

  abbrev leaves : Record → Bool
  leaves = λ r. is_number room (option_map (λ a. a.source) (kind_passage r.kind))

  leaving : leaving_of w' room ≡ leaving_of w room ++ passing leaves (enumerate_from w.next rs)
  leaving =
      ap (map (λ e. e.0)) (filter-append (λ e. leaves e.1) w.objects (enumerate_from w.next rs))
      ∙ map-append _ _ _

  -- the destination of an exit was given a number before
  below_end : (n : ℕ) (a : Passage) → passage_of w n ≡ Some a → a.destination < w.next
  below_end n a at = room-below w sound a.destination (passage-well w sound n a at).1

  abbrev step_of : (ℕ → Bool) → ℕ → Option Passage → Option Step
  step_of f n v = cond (option_map_or (λ a. f n && f a.destination) v false) (option_map (step_by n) v) None

  step_kept : (n : ℕ) → n < w.next → tested_step w' test' n ≡ tested_step w test n
  step_kept n below =
      ap (step_of test' n) (ap (option_and_then (λ r. kind_passage r.kind)) (record-kept w sound rs n below))
      ∙ passage_cases (passage_of w n)
      (λ e. ap (step_of test' n) e ∙ sym (ap (step_of test n) e))
      (λ a e.
      ap (step_of test' n) e
      ∙ ap (λ b. cond (b && test' a.destination) (Some (step_by n a)) None) (same n below)
      ∙ ap (λ b. cond (test n && b) (Some (step_by n a)) None) (same a.destination (below_end n a e))
      ∙ sym (ap (step_of test n) e))

  -- an exit of the room has a number below the next one
  left_below : (n : ℕ) → list_any (nat_eq n) (leaving_of w room) ≡ true → n < w.next
  left_below n among =
      let from : source_of w n ≡ Some room = ((leaving_law w sound room).0 n).0 among in
      record_cases (record_at w n)
      (λ e.
      let bad : None ≡ Some room =
      sym (ap (λ v. option_map (λ a. a.source) (option_and_then (λ r. kind_passage r.kind) v)) e) ∙ from in
      absurd (cc))
      (λ r e. (in_bounds 0 w.next n r w.objects sound.rising e).1)

  new_at : (n : ℕ) (r : Record) → lookup (nat_eq n) (enumerate_from w.next rs) ≡ Some r → record_at w' n ≡ Some r
  new_at n r at =
      let above =
      (in_bounds w.next (w.next + length rs) n r (enumerate_from w.next rs) (IsRising-numbered w.next rs) at).0 in
      lookup-append_right n w.objects (enumerate_from w.next rs) (missing-above w sound n above) ∙ at

  -- the roads are the older ones and the steps of the new exits
  pub roads-enlarged : tested_roads w' test' room
      ≡ tested_roads w test room ++ filter_map (step_from w' test' room) (range_with_len w.next (length rs))
  roads-enlarged =
      ap (filter_map (tested_step w' test')) leaving
      ∙ filter_map-append (tested_step w' test') (leaving_of w room) (passing leaves (enumerate_from w.next rs))
      ∙ ap (λ (ss : List Step). ss ++ filter_map (tested_step w' test') (passing leaves (enumerate_from w.next rs)))
      (filter_map-alike (tested_step w' test') (tested_step w test) (leaving_of w room)
      (λ n among. step_kept n (left_below n among)))
      ∙ ap (λ (ss : List Step). tested_roads w test room ++ ss)
      (of_new (tested_step w' test') (step_from w' test' room) leaves w.next rs
      (λ n r at. ap (λ v. cond
      (is_number room (option_map (λ a. a.source) (option_and_then (λ r. kind_passage r.kind) v)))
      (tested_step w' test' n) None) (new_at n r at)))
