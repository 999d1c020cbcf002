-- The roads by the exits that pass a test, when an object is recycled.
use Rattle.std.proofs.Common.{◌≡◌, ◌≢◌, ℕ, Bool, true, false, not, ◌&&◌, cond, List, [], ◌∷◌, map, set, get_or}
use Rattle.std.proofs.Common.{Option, Some, None, refl, sym, ◌∙◌, ap, ⊎_elim, zero, suc}
use Rattle.std.specs.Prelude.{nat_eq, filter, IsTrue}
use Rattle.std.specs.Option.{option_map, option_map_or, option_and_then}
use Rattle.std.specs.List.{filter_map, cons_option}
use Rattle.std.proofs.lemmas.Bool.{cases_eq, eq-eqb, ne_eqb, true≢false}
use Rattle.std.proofs.lemmas.List.{get_or-set_other, length-set, length-map}
use Rattle.mud_world.specs.declared.record.Passage.{Passage}
use Rattle.mud_world.specs.declared.record.Record.{Record}
use Rattle.mud_world.specs.Kinds.{kind_place, kind_passage, is_player_kind, is_room_kind}
use Rattle.mud_world.specs.State.{State, record_at, has, is_room, passage_of, leaving_of, unlocked}
use Rattle.mud_world.specs.Sound.{IsSound}
use Rattle.mud_roads.specs.declared.label.Step.{Step}
use Rattle.mud_roads.specs.Passable.{Knowledge, IsDrawn, step_by, tested_step, knows_unlocked}
use Rattle.mud_roads.specs.inner.Growing.{is_marked}
use Rattle.mud_roads.proofs.Roads.{passage_cases, passage-well}

-- the list without n
abbrev without : ℕ → List ℕ → List ℕ
without n xs = filter (λ x. not (nat_eq x n)) xs

step_cases : {P : Type 0} (v : Option Step) → (v ≡ None → P) → ((s : Step) → v ≡ Some s → P) → P
step_cases None f g = f refl
step_cases (Some s) f g = g s refl

-- the step of an exit has its number
numbered : (w : State) (test : ℕ → Bool) (x : ℕ) (s : Step) → tested_step w test x ≡ Some s → s.exit ≡ x
numbered w test x s is =
    passage_cases (passage_of w x)
    (λ e. let bad : None ≡ Some s = sym (ap (λ v. cond (option_map_or (λ a. test x && test a.destination) v false)
    (option_map (step_by x) v) None) e) ∙ is in absurd (cc))
    (λ a e. by_test (test x && test a.destination) a
    (sym (ap (λ v. cond (option_map_or (λ a. test x && test a.destination) v false) (option_map (step_by x) v) None) e)
    ∙ is))
  where
    by_test : (b : Bool) (a : Passage) → cond b (Some (step_by x a)) None ≡ Some s → s.exit ≡ x
    by_test true a e = let same : step_by x a ≡ s = cc in ap (λ (t : Step). t.exit) (sym same)
    by_test false a e = absurd (let bad : None ≡ Some s = e in cc)

-- a number without a step makes no difference
module _ (g : ℕ → Option Step) (n : ℕ) (none : g n ≡ None) where
  pub steps-without : (xs : List ℕ) → filter_map g (without n xs) ≡ filter_map g xs
  steps-without [] = refl
  steps-without (x ∷ xs) =
      ⊎_elim
      (λ (e : x ≡ n).
      ap (λ b. filter_map g (cond (not b) (x ∷ without n xs) (without n xs))) (eq-eqb x n e)
      ∙ steps-without xs
      ∙ sym (ap (λ v. cons_option v (filter_map g xs)) (ap g e ∙ none)))
      (λ apart.
      ap (λ b. filter_map g (cond (not b) (x ∷ without n xs) (without n xs))) (ne_eqb x n apart)
      ∙ ap (cons_option (g x)) (steps-without xs))
      (cases_eq x n)

  module _ (f : ℕ → Option Step) (exits : (x : ℕ) (s : Step) → f x ≡ Some s → s.exit ≡ x)
      (same : (x : ℕ) → x ≢ n → g x ≡ f x) where
    pub steps-apart : (xs : List ℕ) → filter (λ s. not (nat_eq n s.exit)) (filter_map f xs) ≡ filter_map g xs
    steps-apart [] = refl
    steps-apart (x ∷ xs) =
        let again = steps-apart xs in
        ⊎_elim
        (λ (e : x ≡ n).
        step_cases (f x)
        (λ off. ap (λ v. filter (λ s. not (nat_eq n s.exit)) (cons_option v (filter_map f xs))) off
        ∙ again
        ∙ sym (ap (λ v. cons_option v (filter_map g xs)) (ap g e ∙ none)))
        (λ s is.
        ap (λ v. filter (λ s. not (nat_eq n s.exit)) (cons_option v (filter_map f xs))) is
        ∙ ap (λ b. cond (not b) (s ∷ filter (λ s. not (nat_eq n s.exit)) (filter_map f xs))
        (filter (λ s. not (nat_eq n s.exit)) (filter_map f xs))) (eq-eqb n s.exit (sym (exits x s is ∙ e)))
        ∙ again
        ∙ sym (ap (λ v. cons_option v (filter_map g xs)) (ap g e ∙ none))))
        (λ apart.
        step_cases (f x)
        (λ off. ap (λ v. filter (λ s. not (nat_eq n s.exit)) (cons_option v (filter_map f xs))) off
        ∙ again
        ∙ sym (ap (λ v. cons_option v (filter_map g xs)) (same x apart ∙ off)))
        (λ s is.
        ap (λ v. filter (λ s. not (nat_eq n s.exit)) (cons_option v (filter_map f xs))) is
        ∙ ap (λ b. cond (not b) (s ∷ filter (λ s. not (nat_eq n s.exit)) (filter_map f xs))
        (filter (λ s. not (nat_eq n s.exit)) (filter_map f xs)))
        (ne_eqb n s.exit (λ at. apart (sym (exits x s is) ∙ sym at)))
        ∙ ap (λ ss. s ∷ ss) again
        ∙ sym (ap (λ v. cons_option v (filter_map g xs)) (same x apart ∙ is))))
        (cases_eq x n)

-- the row of a room, without the steps of an exit
row_apart : (n : ℕ) (rows : List (List Step)) (room : ℕ)
    → get_or (map (filter (λ s. not (nat_eq n s.exit))) rows) room []
    ≡ filter (λ s. not (nat_eq n s.exit)) (get_or rows room [])
row_apart n [] room = refl
row_apart n (row ∷ rows) zero = refl
row_apart n (row ∷ rows) (suc room) = row_apart n rows room

mark_gone : (n : ℕ) (marks : List Bool) → get_or (set marks n false) n false ≡ false
mark_gone n [] = refl
mark_gone zero (b ∷ marks) = refl
mark_gone (suc n) (b ∷ marks) = mark_gone n marks

has_gone : (w : State) (n : ℕ) → record_at w n ≡ None → (test : Record → Bool) → has w n test ≡ false
has_gone w n gone test = ap (λ v. option_map_or test v false) gone

-- in the world now there is no object n, and everything else is as it was
module _ (w now : State) (sound : IsSound now) (n : ℕ) (gone : record_at now n ≡ None)
    (kept : (x : ℕ) → x ≢ n → record_at now x ≡ record_at w x) (next : now.next ≡ w.next) (t : Knowledge)
    (known : IsDrawn w t) (leaving : (g : ℕ → Option Step) (room : ℕ) → g n ≡ None
    → filter_map g (leaving_of now room) ≡ filter_map g (leaving_of w room)) (apart : t.player ≢ n) (c : Bool)
    (right : IsTrue c → (x : ℕ)
    → knows_unlocked t x ≡ unlocked w t.player x × (unlocked now t.player x ≡ unlocked w t.player x)) where
  abbrev marks' : List Bool
  marks' = set t.marks n false

  abbrev f : ℕ → Option Step
  f = tested_step w (knows_unlocked t)

  abbrev g : ℕ → Option Step
  g = tested_step now (is_marked marks')

  no_step : g n ≡ None
  no_step = ap (λ v. cond (option_map_or (λ a. is_marked marks' n && is_marked marks' a.destination) v false)
      (option_map (step_by n) v) None) (ap (option_and_then (λ r. kind_passage r.kind)) gone)

  -- a room of the world is not that object
  not_gone : (room : ℕ) → is_room now room ≡ true → room ≢ n
  not_gone room there same =
      true≢false (sym there ∙ ap (is_room now) same ∙ ap (λ v. option_map_or (λ r. is_room_kind r.kind) v false) gone)

  abbrev step_of : (ℕ → Bool) → ℕ → Option Passage → Option Step
  step_of test x v = cond (option_map_or (λ a. test x && test a.destination) v false) (option_map (step_by x) v) None

  steps : (x : ℕ) → x ≢ n → g x ≡ f x
  steps x off =
      let same : passage_of now x ≡ passage_of w x = ap (option_and_then (λ r. kind_passage r.kind)) (kept x off) in
      passage_cases (passage_of now x)
      (λ e. ap (step_of (is_marked marks') x) e ∙ sym (ap (step_of (knows_unlocked t) x) (sym same ∙ e)))
      (λ a e.
      let there = not_gone a.destination (passage-well now sound x a e).1 in
      ap (step_of (is_marked marks') x) e
      ∙ ap (λ b. cond (b && is_marked marks' a.destination) (Some (step_by x a)) None)
      (get_or-set_other t.marks n x false false off)
      ∙ ap (λ b. cond (knows_unlocked t x && b) (Some (step_by x a)) None)
      (get_or-set_other t.marks n a.destination false false there)
      ∙ sym (ap (step_of (knows_unlocked t) x) (sym same ∙ e)))

  pub forgets : IsDrawn now
      (record t { current = c; marks = marks'; rows = map (filter (λ s. not (nat_eq n s.exit))) t.rows })
  forgets = record {
    player = ap (λ v. option_map_or (λ r. is_player_kind r.kind) v false) (kept t.player apart) ∙ known.player;
    place = ap (option_and_then (λ r. kind_place r.kind)) (kept t.player apart) ∙ known.place;
    marked = length-set t.marks n false ∙ known.marked ∙ sym next;
    lined = length-map t.rows (filter (λ s. not (nat_eq n s.exit))) ∙ known.lined ∙ sym next;
    drawn = λ room.
        row_apart n t.rows room
        ∙ ap (filter (λ s. not (nat_eq n s.exit))) (known.drawn room)
        ∙ steps-apart g n no_step f (numbered w (knows_unlocked t)) steps (leaving_of w room)
        ∙ sym (leaving g room no_step);
    current = λ is x.
        ⊎_elim
        (λ (e : x ≡ n).
        ap (λ (m : ℕ). get_or marks' m false) e ∙ mark_gone n t.marks
        ∙ sym (ap (λ (m : ℕ). unlocked now t.player m) e ∙ has_gone now n gone _))
        (λ off. get_or-set_other t.marks n x false false off ∙ (right is x).0 ∙ sym (right is x).1)
        (cases_eq x n);
  }
