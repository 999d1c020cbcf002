-- The notices of consecutive entries.
use Rattle.std.proofs.Common.{◌≡◌, ℕ, zero, suc, ◌+◌, ◌≤◌, ◌<◌, Bool, true, false}
use Rattle.std.proofs.Common.{List, [], ◌∷◌, ◌++◌, length, take, drop, Option, Some, None}
use Rattle.std.proofs.Common.{slice_get, refl, sym, ap, ◌∙◌, subst, arith, add-one, append_assoc}
use Rattle.std.proofs.lemmas.List.{append-nil, take-append-le, take-append-drop, length-take-le}
use mathlib.Core.List.{IsPrefix}
use Rattle.std.specs.Prelude.{MatchBool}
use Rattle.mud_world.specs.State.{State}
use Rattle.mud_chron.specs.Entry.{Entry}
use Rattle.mud_row.specs.Known.{Standing}
use Rattle.mud_hall.specs.Notices.{world_after, notice, notices}
use Rattle.mud_hall.specs.inner.Desks.{notice_in, took_in, state_of}
use Rattle.mud_hall.specs.Desk.{DeskState, TakesIn}

pub notices-append : (p : Option ℕ) (h es fs : List Entry)
    → notices p h (es ++ fs) ≡ notices p h es ++ notices p (h ++ es) fs
notices-append p h [] fs = ap (λ w. notices p w fs) (sym (append-nil h))
notices-append p h (e ∷ es) fs =
    ap (λ w. notice p h e ++ w) (notices-append p (h ++ e ∷ []) es fs)
    ∙ (sym (append_assoc (notice p h e) (notices p (h ++ e ∷ []) es) (notices p ((h ++ e ∷ []) ++ es) fs))
    ∙ ap (λ w. (notice p h e ++ notices p (h ++ e ∷ []) es) ++ notices p w fs) (append_assoc h (e ∷ []) es))

-- the rest from a place on begins with the entry there
pub drop_at : (es : List Entry) (i : ℕ) (e : Entry) → slice_get es i ≡ Some e → drop i es ≡ e ∷ drop (suc i) es
drop_at [] i e at = absurd (cc)
drop_at (x ∷ es) zero e at = cc
drop_at (x ∷ es) (suc i) e at = drop_at es i e at

pub take_at : (es : List Entry) (i : ℕ) (e : Entry) → slice_get es i ≡ Some e
    → take (suc i) es ≡ take i es ++ e ∷ []
take_at [] i e at = absurd (cc)
take_at (x ∷ es) zero e at = cc
take_at (x ∷ es) (suc i) e at = ap (λ w. x ∷ w) (take_at es i e at)

-- the notices from a place on are that of the entry there and those of the rest
pub notices_at : (p : Option ℕ) (es : List Entry) (i : ℕ) (e : Entry) → slice_get es i ≡ Some e
    → notices p (take i es) (drop i es) ≡ notice p (take i es) e ++ notices p (take (i + 1) es) (drop (i + 1) es)
notices_at p es i e at = rw (add-one i) (ap (notices p (take i es)) (drop_at es i e at)
    ∙ ap (λ w. notice p (take i es) e ++ notices p w (drop (suc i) es)) (sym (take_at es i e at)))

-- a step from a place inside the list goes to the next place
pub stepped : (more : Bool) (at len new : ℕ) → MatchBool more ((at < len) × (new ≡ at + 1)) ((at ≡ len) × (new ≡ at))
    → at < len → new ≡ at + 1
stepped true at len new m lt = m.1
stepped false at len new m lt = absurd (omega (arith, m.0))

-- two desks in the same state
pub state_eq : (s t : DeskState) → s.number ≡ t.number → s.player ≡ t.player → s.seen ≡ t.seen → s.calls ≡ t.calls
    → s.told ≡ t.told → s ≡ t
state_eq s t n p l c o = λ i. record { number = n i; player = p i; seen = l i; calls = c i; told = o i }

-- seeing entries twice equals seeing all of them at once
pub takes_more : (one two three : DeskState) → TakesIn one two → TakesIn two three → TakesIn one three
takes_more one two three first second =
    let es : List Entry = first.entries in
    let fs : List Entry = second.entries in
    let twice : took_in (took_in one es) fs ≡ took_in one (es ++ fs) =
    state_eq (took_in (took_in one es) fs) (took_in one (es ++ fs)) refl refl (append_assoc one.seen es fs) refl
    (append_assoc one.told (notices one.player one.seen es) (notices one.player (one.seen ++ es) fs)
    ∙ ap (λ (w : List (List ℕ)). one.told ++ w) (sym (notices-append one.player one.seen es fs))) in
    record {
      entries = es ++ fs;
      is = second.is ∙ ap (λ (s : DeskState). took_in s fs) first.is ∙ twice;
    }

-- applying an entry and storing its notice does not change the desk's notices
pub told_same : (stored marked : List (List ℕ)) (p : Option ℕ) (es : List Entry) (i new : ℕ) (e : Entry)
    → slice_get es i ≡ Some e → new ≡ i + 1 → marked ≡ notice p (take i es) e
    → (stored ++ marked) ++ notices p (take new es) (drop new es) ≡ stored ++ notices p (take i es) (drop i es)
told_same stored marked p es i new e at is m =
    rw (is, m) (append_assoc stored (notice p (take i es) e) (notices p (take (i + 1) es) (drop (i + 1) es))
    ∙ ap (λ w. stored ++ w) (sym (notices_at p es i e at)))

drop-append_within : (i : ℕ) (es fs : List Entry) → i ≤ length es → drop i (es ++ fs) ≡ drop i es ++ fs
drop-append_within zero es fs le = refl
drop-append_within (suc i) [] fs le = absurd (omega arith)
drop-append_within (suc i) (e ∷ es) fs le = drop-append_within i es fs (omega arith)

-- entries that become known extend the desk's notices by theirs
pub told_more : (stored : List (List ℕ)) (p : Option ℕ) (es fs : List Entry) (i : ℕ) → i ≤ length es
    → stored ++ notices p (take i (es ++ fs)) (drop i (es ++ fs))
    ≡ (stored ++ notices p (take i es) (drop i es)) ++ notices p es fs
told_more stored p es fs i le =
    rw (take-append-le i es fs le, drop-append_within i es fs le)
    (ap (λ w. stored ++ w) (notices-append p (take i es) (drop i es) fs
    ∙ ap (λ w. notices p (take i es) (drop i es) ++ notices p w fs) (take-append-drop i es))
    ∙ sym (append_assoc stored (notices p (take i es) (drop i es)) (notices p es fs)))

-- a desk whose replica comes to know more sees the new entries
pub grows : (was new : Standing) (s : DeskState) (number : ℕ) (p : Option ℕ) (calls : List ℕ) (stored : List (List ℕ))
    → IsPrefix was.list new.list → new.at ≡ was.at → was.at ≤ length was.list → state_of number p was calls stored ≡ s
    → TakesIn s (state_of number p new calls stored)
grows was new s number p calls stored more at within is =
    let told : stored ++ notices p (take new.at new.list) (drop new.at new.list)
    ≡ (stored ++ notices p (take was.at was.list) (drop was.at was.list)) ++ notices p was.list more.0 =
    rw (at, ← more.1) (told_more stored p was.list more.0 was.at within) in
    let P : DeskState → Type 0 = λ t. state_of number p new calls stored ≡ took_in t more.0 in
    record {
      entries = more.0;
      is = subst P is (state_eq (state_of number p new calls stored)
          (took_in (state_of number p was calls stored) more.0) refl refl (sym more.1) refl told);
    }

-- a guest has no notices
pub notices-none : (h es : List Entry) → notices None h es ≡ []
notices-none h [] = refl
notices-none h (e ∷ es) = notices-none (h ++ e ∷ []) es

-- the stored line is the notice of the entry
pub marked : (peeked was : Standing) (p : Option ℕ) (e : Entry) (n : ℕ) (w : State) (line : List (List ℕ))
    → peeked ≡ was → was.at < length was.list → n ≡ peeked.at → w ≡ world_after (take peeked.at peeked.list)
    → line ≡ notice_in p (n + 1) w e → line ≡ notice p (take was.at was.list) e
marked peeked was p e n w line same lt ni wi is = is ∙ rw (ni, wi, same)
    (ap (λ k. notice_in p (k + 1) (world_after (take was.at was.list)) e)
    (sym (length-take-le was.at was.list (omega arith))))

-- the state after the step is the state before it
pub after_step : (was new : Standing) (s : DeskState) (number : ℕ) (p : Option ℕ) (calls : List ℕ)
    (stored told line : List (List ℕ)) (e : Entry) → new.list ≡ was.list → new.at ≡ was.at + 1
    → slice_get was.list was.at ≡ Some e → told ≡ stored ++ line → line ≡ notice p (take was.at was.list) e
    → state_of number p was calls stored ≡ s → state_of number p new calls told ≡ s
after_step was new s number p calls stored told line e list at here is m state =
    state_eq (state_of number p new calls told) (state_of number p was calls stored)
    refl refl list refl (rw (list, is) (told_same stored line p was.list was.at new.at e here at m)) ∙ state
