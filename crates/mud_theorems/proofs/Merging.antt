-- The calls at settled desks are one run.
use Rattle.std.proofs.Common.{◌≡◌, ◌≢◌, ℕ, zero, suc, ◌+◌, ◌≤◌, ◌<◌, ◌⊎◌, inl, inr}
use Rattle.std.proofs.Common.{List, [], ◌∷◌, ◌++◌, length, map, drop, get_or, None, Some}
use Rattle.std.proofs.Common.{refl, sym, ◌∙◌, ap, subst, arith, append_assoc, append-nil, cond, eqb}
use Rattle.std.specs.Prelude.{All, ◌==◌, max}
use Rattle.std.proofs.lemmas.Bool.{cases_eq, cases_lt, eq-eqb, ne_eqb}
use Rattle.std.proofs.lemmas.List.{length-append, map-append, get_or_default}
use Rattle.std.proofs.lemmas.List.Elements.{All-nil, All-cons, All-head, All-tail, All-weaker, filter-append}
use mathlib.Core.List.{IsPrefix}
use Rattle.mud_chron.specs.declared.limits.TheConstants.{MOST_DESKS}
use Rattle.mud_chron.specs.Entry.{Entry}
use Rattle.mud_hall.specs.Desk.{DeskState, View, new_desk, TakesIn, IsNew}
use Rattle.mud_hall.specs.Notices.{notices}
use Rattle.mud_hall.specs.Settlement.{versions_by, entries_made, HasNumber, AreApart, IsSettled}
use Rattle.mud_hall.specs.Steps.{Call, See, PerformsAll, Grows}
use Rattle.mud_hall.specs.Steps.{Hall, hall_begun, seats, HallStep, Desk, At, Makes, IsRun}
use Rattle.mud_theorems.specs.Runs.{number_of, steps_of}
use Rattle.mud_hall.proofs.Notices.{state_eq, notices-none}
use Rattle.mud_theorems.proofs.Calls.{chained, Quiet, Stored, performed, Goes, goes, IsNext, next}
use Rattle.mud_theorems.proofs.Calls.{nothing-left, below}

-- ---- prefixes of one list

-- of two prefixes the shorter is a prefix of the longer
shorter : (a b h : List Entry) → IsPrefix a h → IsPrefix b h → length a ≤ length b → IsPrefix a b
shorter [] b h x y le = (b, refl)
shorter (e ∷ a) [] h x y le = absurd (omega (arith, le))
shorter (e ∷ a) (f ∷ b) [] x y le = absurd (let bad = x.1 in cc)
shorter (e ∷ a) (f ∷ b) (g ∷ h) (s, p) (t, q) le =
    let one : e ≡ g = cc in
    let two : f ≡ g = cc in
    let there : a ++ s ≡ h = cc in
    let here : b ++ t ≡ h = cc in
    let rest = shorter a b h (s, there) (t, here) (omega (arith, le)) in
    (rest.0, ap (λ (x : Entry). x ∷ (a ++ rest.0)) (one ∙ sym two) ∙ ap (λ (xs : List Entry). f ∷ xs) rest.1)

none-more : (a : List Entry) (more : List Entry) → length (a ++ more) ≤ length a → more ≡ []
none-more a [] le = refl
none-more a (e ∷ more) le = absurd (omega (arith, le, length-append a (e ∷ more)))

-- two prefixes of one length are equal
alike : (a b h : List Entry) → IsPrefix a h → IsPrefix b h → length a ≡ length b → a ≡ b
alike a b h x y same =
    let on : IsPrefix a b = shorter a b h x y (omega (arith, same)) in
    let none : on.0 ≡ [] = none-more a on.0 (omega (arith, same, ap length on.1)) in
    sym (append-nil a) ∙ ap (λ (t : List Entry). a ++ t) (sym none) ∙ on.1

drop-front : (f more : List Entry) → drop (length f) (f ++ more) ≡ more
drop-front [] more = refl
drop-front (e ∷ f) more = drop-front f more

behind : (f h : List Entry) → IsPrefix f h → f ++ drop (length f) h ≡ h
behind f h on =
    ap (λ (x : List Entry). f ++ drop (length f) x) (sym on.1) ∙ ap (λ (x : List Entry). f ++ x) (drop-front f on.0)
    ∙ on.1

-- ---- a hall

pub at-here : (hall : Hall) (h : List Entry) (n : ℕ) (d : DeskState) → (seats hall h n d).desks n ≡ Some d
at-here hall h n d = ap (λ b. cond b (Some d) (hall.desks n)) (eq-eqb n n refl)

at-other : (hall : Hall) (h : List Entry) (n : ℕ) (d : DeskState) (t : ℕ) → t ≢ n
    → (seats hall h n d).desks t ≡ hall.desks t
at-other hall h n d t apart = ap (λ b. cond b (Some d) (hall.desks t)) (ne_eqb t n apart)

pub run-append : (capacity : ℕ) (loaded : List Entry) (a b c : Hall) (xs ys : List HallStep)
    → IsRun capacity loaded a xs b → IsRun capacity loaded b ys c → IsRun capacity loaded a (xs ++ ys) c
run-append capacity loaded a b c [] ys same more =
    subst (λ (h : Hall). IsRun capacity loaded h ys c) (sym same) more
run-append capacity loaded a b c (x ∷ xs) ys (now, makes, rest) more =
    (now, makes, run-append capacity loaded now b c xs ys rest more)

-- ---- parts

part-append : (n : ℕ) (xs ys : List HallStep) → steps_of n (xs ++ ys) ≡ steps_of n xs ++ steps_of n ys
part-append n xs ys = filter-append (λ step. number_of step == n) xs ys

part-mine : (n : ℕ) (calls : List Call) → steps_of n (map (At n) calls) ≡ map (At n) calls
part-mine n [] = refl
part-mine n (call ∷ calls) =
    ap (λ b. cond b (At n call ∷ steps_of n (map (At n) calls)) (steps_of n (map (At n) calls))) (eq-eqb n n refl)
    ∙ ap (λ (xs : List HallStep). At n call ∷ xs) (part-mine n calls)

part-other : (n m : ℕ) (calls : List Call) → m ≢ n → steps_of m (map (At n) calls) ≡ []
part-other n m [] apart = refl
part-other n m (call ∷ calls) apart =
    ap (λ b. cond b (At n call ∷ steps_of m (map (At n) calls)) (steps_of m (map (At n) calls)))
    (ne_eqb n m (λ e. apart (sym e)))
    ∙ part-other n m calls apart

-- ---- one desk advances

-- desk n makes these calls, and no other desk makes any
record Advances (capacity : ℕ) (loaded : List Entry) (hall : Hall) (n : ℕ) (calls : List Call) (new : DeskState)
    (history : List Entry) : Type 0 where
  later : Hall
  run : IsRun capacity loaded hall (map (At n) calls) later
  here : later.desks n ≡ Some new
  others : (t : ℕ) → t ≢ n → later.desks t ≡ hall.desks t
  whole : later.history ≡ history

rests : (capacity : ℕ) (loaded : List Entry) (hall : Hall) (n : ℕ) (s : DeskState) → hall.desks n ≡ Some s
    → Advances capacity loaded hall n [] s hall.history
rests capacity loaded hall n s at =
    record { later = hall; run = refl; here = at; others = λ t apart. refl; whole = refl }

steps : (capacity : ℕ) (loaded : List Entry) (hall : Hall) (n : ℕ) (call : Call) (calls : List Call)
    (h : List Entry) (now new : DeskState) (history : List Entry)
    → Makes capacity loaded hall (At n call) (seats hall h n now)
    → Advances capacity loaded (seats hall h n now) n calls new history
    → Advances capacity loaded hall n (call ∷ calls) new history
steps capacity loaded hall n call calls h now new history makes a = record {
  later = a.later;
  run = (seats hall h n now, makes, a.run);
  here = a.here;
  others = λ t apart. a.others t apart ∙ at-other hall h n now t apart;
  whole = a.whole;
}

-- calls that store nothing
quiet : (capacity : ℕ) (loaded : List Entry) (hall : Hall) (n : ℕ) (s : DeskState) (calls : List Call) (d : DeskState)
    → hall.desks n ≡ Some s → PerformsAll capacity s calls d → d.calls ≡ s.calls → IsPrefix d.seen hall.history
    → Advances capacity loaded hall n calls d hall.history
quiet capacity loaded hall n s [] d at same none known =
    rests capacity loaded hall n d (at ∙ ap (λ (x : DeskState). Some x) (sym same))
quiet capacity loaded hall n s (call ∷ calls) d at (now, does, more) none known =
    go (performed capacity s call now does) (goes capacity now calls d more)
    (quiet capacity loaded (seats hall hall.history n now) n now calls d (at-here hall hall.history n now) more)
  where
    go : Quiet s call now ⊎ Stored s call now → Goes now d
        → (d.calls ≡ now.calls → IsPrefix d.seen hall.history
        → Advances capacity loaded (seats hall hall.history n now) n calls d hall.history)
        → Advances capacity loaded hall n (call ∷ calls) d hall.history
    go (inl q) g rest =
        let seen : IsPrefix now.seen hall.history = chained now.seen d.seen hall.history g.seen known in
        steps capacity loaded hall n call calls hall.history now d hall.history
        (s, now, record { before = at; known = seen; after = refl }, q.still hall.history, does)
        (rest (none ∙ sym q.calls) known)
    go (inr x) g rest =
        absurd (nothing-left s.calls x.version g.calls.0
        (sym none ∙ sym g.calls.1 ∙ ap (λ (ns : List ℕ). ns ++ g.calls.0) x.calls
        ∙ append_assoc s.calls (x.version ∷ []) g.calls.0))

-- desk n advances up to its next change
record Took (capacity : ℕ) (loaded : List Entry) (hall : Hall) (n : ℕ) (calls : List Call) (d : DeskState)
    (rest : List ℕ) (history : List Entry) : Type 0 where
  done : List Call
  left : List Call
  split : calls ≡ done ++ left
  now : DeskState
  goes_on : Advances capacity loaded hall n done now history
  does : PerformsAll capacity now left d
  calls_left : d.calls ≡ now.calls ++ rest

took : (capacity : ℕ) (loaded : List Entry) (hall : Hall) (n : ℕ) (s : DeskState) (calls : List Call) (d : DeskState)
    (v : ℕ) (rest : List ℕ) (e : Entry) (goal : List Entry)
    → hall.desks n ≡ Some s → PerformsAll capacity s calls d → d.calls ≡ s.calls ++ v ∷ rest
    → v ≡ length hall.history + 1 → IsPrefix d.seen goal → IsPrefix (hall.history ++ e ∷ []) goal
    → Took capacity loaded hall n calls d rest (hall.history ++ e ∷ [])
took capacity loaded hall n s [] d v rest e goal at same is next_is known whole =
    absurd (nothing-left s.calls v rest (sym (ap (λ (x : DeskState). x.calls) same) ∙ is))
took capacity loaded hall n s (call ∷ calls) d v rest e goal at (now, does, more) is next_is known whole =
    go (performed capacity s call now does) (goes capacity now calls d more)
    (took capacity loaded (seats hall hall.history n now) n now calls d v rest e goal
    (at-here hall hall.history n now) more)
  where
    go : Quiet s call now ⊎ Stored s call now → Goes now d
        → (d.calls ≡ now.calls ++ v ∷ rest → v ≡ length hall.history + 1 → IsPrefix d.seen goal
        → IsPrefix (hall.history ++ e ∷ []) goal
        → Took capacity loaded (seats hall hall.history n now) n calls d rest (hall.history ++ e ∷ []))
        → Took capacity loaded hall n (call ∷ calls) d rest (hall.history ++ e ∷ [])
    go (inl q) g on =
        let left : d.calls ≡ now.calls ++ v ∷ rest = is ∙ ap (λ (ns : List ℕ). ns ++ v ∷ rest) (sym q.calls) in
        let few : length now.seen < v = below capacity now calls d v rest more left in
        let here : IsPrefix hall.history goal =
        chained hall.history (hall.history ++ e ∷ []) goal (e ∷ [], refl) whole in
        let seen : IsPrefix now.seen hall.history =
        shorter now.seen hall.history goal (chained now.seen d.seen goal g.seen known) here
        (omega (arith, few, next_is)) in
        let t = on left next_is known whole in
        record {
          done = call ∷ t.done;
          left = t.left;
          split = ap (λ (cs : List Call). call ∷ cs) t.split;
          now = t.now;
          goes_on = steps capacity loaded hall n call t.done hall.history now t.now (hall.history ++ e ∷ [])
              (s, now, record { before = at; known = seen; after = refl }, q.still hall.history, does) t.goes_on;
          does = t.does;
          calls_left = t.calls_left;
        }
    go (inr x) g on =
        let first : IsNext now d x.version v rest = next s call now d v rest x g is in
        let seen : IsPrefix now.seen goal = chained now.seen d.seen goal g.seen known in
        let same : now.seen ≡ hall.history ++ e ∷ [] =
        alike now.seen (hall.history ++ e ∷ []) goal seen whole
        (omega (arith, x.long, first.same, next_is, length-append hall.history (e ∷ []))) in
        let grows : Grows call hall.history now (hall.history ++ e ∷ []) =
        subst (λ (c : Call). Grows c hall.history now (hall.history ++ e ∷ [])) (sym x.is) (e, refl, same) in
        let after : Hall = seats hall (hall.history ++ e ∷ []) n now in
        record {
          done = call ∷ [];
          left = calls;
          split = refl;
          now = now;
          goes_on = steps capacity loaded hall n call [] (hall.history ++ e ∷ []) now now (hall.history ++ e ∷ [])
              (s, now, record { before = at; known = ([], append-nil now.seen ∙ same); after = refl }, grows, does)
              (rests capacity loaded after n now (at-here hall (hall.history ++ e ∷ []) n now));
          does = more;
          calls_left = first.left;
        }

-- ---- all desks

-- a desk is in this state, and its remaining calls store its remaining entries
record Stands (capacity : ℕ) (hall : Hall) (es : List Entry) (left : ℕ → List Call) (d : View) : Type 0 where
  now : DeskState
  at : hall.desks d.state.number ≡ Some now
  does : PerformsAll capacity now (left d.state.number) d.state
  calls : d.state.calls ≡ now.calls ++ versions_by d.state.number (length hall.history + 1) es

-- the desks come to their ends
record Ends (capacity : ℕ) (loaded : List Entry) (hall : Hall) (left : ℕ → List Call) (desks : List View)
    (history : List Entry) : Type 0 where
  steps : List HallStep
  later : Hall
  run : IsRun capacity loaded hall steps later
  whole : later.history ≡ history
  ends : All (λ d. later.desks d.state.number ≡ Some d.state) desks
  parts : All (λ d. steps_of d.state.number steps ≡ map (At d.state.number) (left d.state.number)) desks
  others : (n : ℕ) → (HasNumber desks n → ⊥) → steps_of n steps ≡ []
  stay : (n : ℕ) → (HasNumber desks n → ⊥) → later.desks n ≡ hall.desks n

has-first : (d : View) (ds : List View) → HasNumber (d ∷ ds) d.state.number
has-first d ds = (0, d, omega arith, refl, refl)

has-more : (d : View) (ds : List View) (n : ℕ) → HasNumber ds n → HasNumber (d ∷ ds) n
has-more d ds n (k, x, lt, eq, is) = (suc k, x, omega (arith, lt), eq, is)

pub apart-first : (d : View) (ds : List View) → AreApart (d ∷ ds)
    → All (λ c. d.state.number ≢ c.state.number) ds
apart-first d ds apart k x lt = apart 0 (suc k) x (omega arith) (omega (arith, lt))

pub apart-more : (d : View) (ds : List View) → AreApart (d ∷ ds) → AreApart ds
apart-more d ds apart i j x less lt = apart (suc i) (suc j) x (omega (arith, less)) (omega (arith, lt))

-- no other desk has the number
apart-none : (d : View) (ds : List View) → AreApart (d ∷ ds) → HasNumber ds d.state.number → ⊥
apart-none d ds apart (k, x, lt, eq, is) =
    apart-first d ds apart k x lt (sym (ap (λ (y : View). y.state.number) eq ∙ is))

-- if no entry is left each desk makes its calls, one desk after the other
finish : (capacity : ℕ) (loaded : List Entry) (left : ℕ → List Call) (desks : List View) (hall : Hall)
    → AreApart desks → All (Stands capacity hall [] left) desks
    → All (λ d. IsPrefix d.state.seen hall.history) desks → Ends capacity loaded hall left desks hall.history
finish capacity loaded left [] hall apart stand known = record {
  steps = [];
  later = hall;
  run = refl;
  whole = refl;
  ends = All-nil (λ d. hall.desks d.state.number ≡ Some d.state);
  parts = All-nil (λ d. steps_of d.state.number [] ≡ map (At d.state.number) (left d.state.number));
  others = λ n none. refl;
  stay = λ n none. refl;
}
finish capacity loaded left (d ∷ ds) hall apart stand known =
    go (finish capacity loaded left ds mine.later (apart-more d ds apart) (λ k x lt. moved k x lt)
    (λ k x lt. subst (λ (h : List Entry). IsPrefix (get_or ds k x).state.seen h) (sym mine.whole)
    (All-tail (λ c. IsPrefix c.state.seen hall.history) d ds known k x lt)))
  where
    n : ℕ
    n = d.state.number

    s : Stands capacity hall [] left d
    s = All-head (Stands capacity hall [] left) d ds stand

    mine : Advances capacity loaded hall n (left n) d.state hall.history
    mine =
        quiet capacity loaded hall n s.now (left n) d.state s.at s.does (s.calls ∙ append-nil s.now.calls)
        (All-head (λ c. IsPrefix c.state.seen hall.history) d ds known)

    apart-at : (k : ℕ) (x : View) → k < length ds → (get_or ds k x).state.number ≢ n
    apart-at k x lt same = apart-first d ds apart k x lt (sym same)

    moved : (k : ℕ) (x : View) → k < length ds → Stands capacity mine.later [] left (get_or ds k x)
    moved k x lt =
        let c : Stands capacity hall [] left (get_or ds k x) =
        All-tail (Stands capacity hall [] left) d ds stand k x lt in
        record {
          now = c.now;
          at = mine.others (get_or ds k x).state.number (apart-at k x lt) ∙ c.at;
          does = c.does;
          calls = c.calls;
        }

    go : Ends capacity loaded mine.later left ds mine.later.history
        → Ends capacity loaded hall left (d ∷ ds) hall.history
    go r = record {
      steps = map (At n) (left n) ++ r.steps;
      later = r.later;
      run = run-append capacity loaded hall mine.later r.later (map (At n) (left n)) r.steps mine.run r.run;
      whole = r.whole ∙ mine.whole;
      ends = All-cons (λ c. r.later.desks c.state.number ≡ Some c.state) d ds
          (r.stay n (apart-none d ds apart) ∙ mine.here) r.ends;
      parts = All-cons
          (λ c. steps_of c.state.number (map (At n) (left n) ++ r.steps)
          ≡ map (At c.state.number) (left c.state.number))
          d ds
          (part-append n (map (At n) (left n)) r.steps
          ∙ ap (λ (xs : List HallStep). xs ++ steps_of n r.steps) (part-mine n (left n))
          ∙ ap (λ (xs : List HallStep). map (At n) (left n) ++ xs) (r.others n (apart-none d ds apart))
          ∙ append-nil (map (At n) (left n)))
          (λ k x lt. let m : ℕ = (get_or ds k x).state.number in
          part-append m (map (At n) (left n)) r.steps
          ∙ ap (λ (xs : List HallStep). xs ++ steps_of m r.steps) (part-other n m (left n) (apart-at k x lt))
          ∙ r.parts k x lt);
      others = λ m none.
          part-append m (map (At n) (left n)) r.steps
          ∙ ap (λ (xs : List HallStep). xs ++ steps_of m r.steps)
          (part-other n m (left n)
          (λ same. none (subst (λ (x : ℕ). HasNumber (d ∷ ds) x) (sym same) (has-first d ds))))
          ∙ r.others m (λ has. none (has-more d ds m has));
      stay = λ m none.
          r.stay m (λ has. none (has-more d ds m has))
          ∙ mine.others m (λ same. none (subst (λ (x : ℕ). HasNumber (d ∷ ds) x) (sym same) (has-first d ds)));
    }

-- ---- entry by entry

-- desks of one number are one
unique : (desks : List View) → AreApart desks → (i j : ℕ) (x : View) → i < length desks → j < length desks
    → (get_or desks i x).state.number ≡ (get_or desks j x).state.number → i ≡ j
unique desks apart i j x one two same = go (cases_lt i j) (cases_lt j i)
  where
    go : (i < j) ⊎ (j ≤ i) → (j < i) ⊎ (i ≤ j) → i ≡ j
    go (inl less) other = absurd (apart i j x less two same)
    go (inr more) (inl less) = absurd (apart j i x less one (sym same))
    go (inr more) (inr least) = omega (arith, more, least)

-- the versions of the entries that are left: the first is of this desk, or of another
mine-first : (n v : ℕ) (e : Entry) (es : List Entry) → e.desk ≡ n
    → versions_by n v (e ∷ es) ≡ v ∷ versions_by n (v + 1) es
mine-first n v e es is =
    ap (λ b. cond b (v ∷ []) [] ++ versions_by n (v + 1) es) (eq-eqb e.desk n is)

other-first : (n v : ℕ) (e : Entry) (es : List Entry) → e.desk ≢ n
    → versions_by n v (e ∷ es) ≡ versions_by n (v + 1) es
other-first n v e es apart =
    ap (λ b. cond b (v ∷ []) [] ++ versions_by n (v + 1) es) (ne_eqb e.desk n apart)

-- the calls that are left, once those of desk n are these
abbrev leaves : (ℕ → List Call) → ℕ → List Call → ℕ → List Call
leaves left n calls m = cond (eqb m n) calls (left m)

leaves-mine : (left : ℕ → List Call) (n : ℕ) (calls : List Call) (m : ℕ) → m ≡ n → leaves left n calls m ≡ calls
leaves-mine left n calls m same = ap (λ b. cond b calls (left m)) (eq-eqb m n same)

leaves-other : (left : ℕ → List Call) (n : ℕ) (calls : List Call) (m : ℕ) → m ≢ n → leaves left n calls m ≡ left m
leaves-other left n calls m apart = ap (λ b. cond b calls (left m)) (ne_eqb m n apart)

-- the desk that is at a place
at-place : (desks : List View) → AreApart desks → (i j : ℕ) (x y : View) → i < length desks → j < length desks
    → get_or desks i x ≡ x → (get_or desks j y).state.number ≡ x.state.number → get_or desks j y ≡ x
at-place desks apart i j x y one two at same =
    let there : get_or desks i y ≡ x = get_or_default desks i y x one ∙ at in
    let place : j ≡ i =
    unique desks apart j i y two one (same ∙ sym (ap (λ (d : View). d.state.number) there)) in
    ap (λ k. get_or desks k y) place ∙ there

-- for each entry the desk of its number advances to it; at the end all make their remaining calls
runs : (capacity : ℕ) (loaded : List Entry) (desks : List View) (history : List Entry) → AreApart desks
    → All (λ d. IsPrefix d.state.seen history) desks → (es : List Entry) (hall : Hall) (left : ℕ → List Call)
    → All (Stands capacity hall es left) desks → All (λ e. HasNumber desks e.desk) es → hall.history ++ es ≡ history
    → Ends capacity loaded hall left desks history
runs capacity loaded desks history apart known [] hall left stand named whole =
    let here : hall.history ≡ history = sym (append-nil hall.history) ∙ whole in
    subst (λ (h : List Entry). Ends capacity loaded hall left desks h) here
    (finish capacity loaded left desks hall apart stand
    (subst (λ (h : List Entry). All (λ d. IsPrefix d.state.seen h) desks) (sym here) known))
runs capacity loaded desks history apart known (e ∷ es) hall left stand named whole =
    join (runs capacity loaded desks history apart known es first.goes_on.later (leaves left n first.left) moved
    (All-tail (λ (y : Entry). HasNumber desks y.desk) e es named)
    (ap (λ (h : List Entry). h ++ es) first.goes_on.whole ∙ append_assoc hall.history (e ∷ []) es ∙ whole))
  where
    has : HasNumber desks e.desk
    has = All-head (λ (y : Entry). HasNumber desks y.desk) e es named

    n : ℕ
    n = has.1.state.number

    v : ℕ
    v = length hall.history + 1

    s : Stands capacity hall (e ∷ es) left has.1
    s = subst (Stands capacity hall (e ∷ es) left) has.3 (stand has.0 has.1 has.2)

    seen : IsPrefix has.1.state.seen history
    seen = subst (λ (y : View). IsPrefix y.state.seen history) has.3 (known has.0 has.1 has.2)

    first : Took capacity loaded hall n (left n) has.1.state (versions_by n (v + 1) es) (hall.history ++ e ∷ [])
    first =
        took capacity loaded hall n s.now (left n) has.1.state v (versions_by n (v + 1) es) e history s.at s.does
        (s.calls ∙ ap (λ (ns : List ℕ). s.now.calls ++ ns) (mine-first n v e es (sym has.4))) refl seen
        (es, append_assoc hall.history (e ∷ []) es ∙ whole)

    long : length first.goes_on.later.history + 1 ≡ v + 1
    long = omega (arith, ap length first.goes_on.whole, length-append hall.history (e ∷ []))

    mine : Stands capacity first.goes_on.later es (leaves left n first.left) has.1
    mine = record {
      now = first.now;
      at = first.goes_on.here;
      does = subst (λ (cs : List Call). PerformsAll capacity first.now cs has.1.state)
          (sym (leaves-mine left n first.left n refl)) first.does;
      calls = first.calls_left ∙ ap (λ (k : ℕ). first.now.calls ++ versions_by n k es) (sym long);
    }

    other : (d : View) → d.state.number ≢ n → Stands capacity hall (e ∷ es) left d
        → Stands capacity first.goes_on.later es (leaves left n first.left) d
    other d ne c = record {
      now = c.now;
      at = first.goes_on.others d.state.number ne ∙ c.at;
      does = subst (λ (cs : List Call). PerformsAll capacity c.now cs d.state)
          (sym (leaves-other left n first.left d.state.number ne)) c.does;
      calls = c.calls
          ∙ ap (λ (ns : List ℕ). c.now.calls ++ ns) (other-first d.state.number v e es (λ y. ne (sym y ∙ sym has.4)))
          ∙ ap (λ (k : ℕ). c.now.calls ++ versions_by d.state.number k es) (sym long);
    }

    moved : All (Stands capacity first.goes_on.later es (leaves left n first.left)) desks
    moved j y lt = go (cases_eq (get_or desks j y).state.number n)
      where
        go : ((get_or desks j y).state.number ≡ n) ⊎ ((get_or desks j y).state.number ≢ n)
            → Stands capacity first.goes_on.later es (leaves left n first.left) (get_or desks j y)
        go (inl same) =
            subst (Stands capacity first.goes_on.later es (leaves left n first.left))
            (sym (at-place desks apart has.0 j has.1 y has.2 lt has.3 same)) mine
        go (inr ne) = other (get_or desks j y) ne (stand j y lt)

    here : HasNumber desks n
    here = (has.0, has.1, has.2, has.3, refl)

    part : (m : ℕ) (rest : List HallStep) → steps_of m rest ≡ map (At m) (leaves left n first.left m)
        → steps_of m (map (At n) first.done ++ rest) ≡ map (At m) (left m)
    part m rest is = go (cases_eq m n)
      where
        go : (m ≡ n) ⊎ (m ≢ n) → steps_of m (map (At n) first.done ++ rest) ≡ map (At m) (left m)
        go (inl same) =
            part-append m (map (At n) first.done) rest
            ∙ ap (λ (xs : List HallStep). xs ++ steps_of m rest)
            (subst (λ (k : ℕ). steps_of k (map (At n) first.done) ≡ map (At k) first.done) (sym same)
            (part-mine n first.done))
            ∙ ap (λ (xs : List HallStep). map (At m) first.done ++ xs)
            (is ∙ ap (map (At m)) (leaves-mine left n first.left m same))
            ∙ sym (map-append (At m) first.done first.left)
            ∙ ap (map (At m)) (sym first.split)
            ∙ ap (λ (k : ℕ). map (At m) (left k)) (sym same)
        go (inr ne) =
            part-append m (map (At n) first.done) rest
            ∙ ap (λ (xs : List HallStep). xs ++ steps_of m rest) (part-other n m first.done ne)
            ∙ is ∙ ap (map (At m)) (leaves-other left n first.left m ne)

    nobody : (m : ℕ) → (HasNumber desks m → ⊥) → m ≢ n
    nobody m none same = none (subst (λ (k : ℕ). HasNumber desks k) (sym same) here)

    join : Ends capacity loaded first.goes_on.later (leaves left n first.left) desks history
        → Ends capacity loaded hall left desks history
    join r = record {
      steps = map (At n) first.done ++ r.steps;
      later = r.later;
      run = run-append capacity loaded hall first.goes_on.later r.later (map (At n) first.done) r.steps
          first.goes_on.run r.run;
      whole = r.whole;
      ends = r.ends;
      parts = λ j y lt. part (get_or desks j y).state.number r.steps (r.parts j y lt);
      others = λ m none.
          part-append m (map (At n) first.done) r.steps
          ∙ ap (λ (xs : List HallStep). xs ++ steps_of m r.steps) (part-other n m first.done (nobody m none))
          ∙ r.others m none;
      stay = λ m none. r.stay m none ∙ first.goes_on.others m (nobody m none);
    }

-- ---- the hall makes the desks

-- a hall with k desks, and no call at them
record Given (capacity : ℕ) (loaded : List Entry) (k : ℕ) : Type 0 where
  hall : Hall
  steps : List HallStep
  run : IsRun capacity loaded (hall_begun loaded) steps hall
  history : hall.history ≡ loaded
  count : hall.given ≡ k
  at : (s : ℕ) → 1 ≤ s → s ≤ k → hall.desks s ≡ Some (new_desk s loaded)
  part : (n : ℕ) → 1 ≤ n → n ≤ k → steps_of n steps ≡ Desk n ∷ []
  none : (n : ℕ) → (n < 1) ⊎ (k < n) → steps_of n steps ≡ []

desk-mine : (s n : ℕ) → n ≡ s → steps_of n (Desk s ∷ []) ≡ Desk n ∷ []
desk-mine s n same =
    ap (λ b. cond b (Desk s ∷ []) []) (eq-eqb s n (sym same)) ∙ ap (λ (k : ℕ). Desk k ∷ []) (sym same)

desk-other : (s n : ℕ) → n ≢ s → steps_of n (Desk s ∷ []) ≡ []
desk-other s n apart = ap (λ b. cond b (Desk s ∷ []) []) (ne_eqb s n (λ e. apart (sym e)))

gives : (capacity : ℕ) (loaded : List Entry) (k : ℕ) → k ≤ MOST_DESKS → Given capacity loaded k
gives capacity loaded zero few = record {
  hall = hall_begun loaded;
  steps = [];
  run = refl;
  history = refl;
  count = refl;
  at = λ s from to. absurd (omega (arith, from, to));
  part = λ n from to. absurd (omega (arith, from, to));
  none = λ n out. refl;
}
gives capacity loaded (suc k) few = go (gives capacity loaded k (omega (arith, few)))
  where
    d : DeskState
    d = new_desk (suc k) loaded

    go : Given capacity loaded k → Given capacity loaded (suc k)
    go g =
        let after : Hall = record (seats g.hall g.hall.history (suc k) d) { given = suc k } in
        let fresh : IsNew loaded d =
        record { from = omega arith; to = few; begun = ([], append-nil loaded); is = refl } in
        let makes : Makes capacity loaded g.hall (Desk (suc k)) after =
        (d, fresh, refl, omega (arith, g.count), ([], append-nil loaded ∙ sym g.history), refl) in
        record {
          hall = after;
          steps = g.steps ++ Desk (suc k) ∷ [];
          run = run-append capacity loaded (hall_begun loaded) g.hall after g.steps (Desk (suc k) ∷ []) g.run
              (after, makes, refl);
          history = g.history;
          count = refl;
          at = λ s from to. seat g s from to (cases_eq s (suc k));
          part = λ n from to. part g n from to (cases_eq n (suc k));
          none = λ n out. none g n out;
        }
      where
        seat : (g : Given capacity loaded k) (s : ℕ) → 1 ≤ s → s ≤ suc k → (s ≡ suc k) ⊎ (s ≢ suc k)
            → cond (eqb s (suc k)) (Some d) (g.hall.desks s) ≡ Some (new_desk s loaded)
        seat g s from to (inl same) =
            ap (λ b. cond b (Some d) (g.hall.desks s)) (eq-eqb s (suc k) same)
            ∙ ap (λ (i : ℕ). Some (new_desk i loaded)) (sym same)
        seat g s from to (inr apart) =
            ap (λ b. cond b (Some d) (g.hall.desks s)) (ne_eqb s (suc k) apart)
            ∙ g.at s from (omega (arith, to, apart))

        part : (g : Given capacity loaded k) (n : ℕ) → 1 ≤ n → n ≤ suc k → (n ≡ suc k) ⊎ (n ≢ suc k)
            → steps_of n (g.steps ++ Desk (suc k) ∷ []) ≡ Desk n ∷ []
        part g n from to (inl same) =
            part-append n g.steps (Desk (suc k) ∷ [])
            ∙ ap (λ (xs : List HallStep). xs ++ steps_of n (Desk (suc k) ∷ []))
            (g.none n (inr (omega (arith, same))))
            ∙ desk-mine (suc k) n same
        part g n from to (inr apart) =
            part-append n g.steps (Desk (suc k) ∷ [])
            ∙ ap (λ (xs : List HallStep). xs ++ steps_of n (Desk (suc k) ∷ []))
            (g.part n from (omega (arith, to, apart)))
            ∙ ap (λ (xs : List HallStep). Desk n ∷ xs) (desk-other (suc k) n apart)

        none : (g : Given capacity loaded k) (n : ℕ) → (n < 1) ⊎ (suc k < n)
            → steps_of n (g.steps ++ Desk (suc k) ∷ []) ≡ []
        none g n (inl low) =
            part-append n g.steps (Desk (suc k) ∷ [])
            ∙ ap (λ (xs : List HallStep). xs ++ steps_of n (Desk (suc k) ∷ [])) (g.none n (inl low))
            ∙ desk-other (suc k) n (λ same. omega (arith, low, same))
        none g n (inr high) =
            part-append n g.steps (Desk (suc k) ∷ [])
            ∙ ap (λ (xs : List HallStep). xs ++ steps_of n (Desk (suc k) ∷ []))
            (g.none n (inr (omega (arith, high))))
            ∙ desk-other (suc k) n (λ same. omega (arith, high, same))

-- ---- the law

highest : List View → ℕ
highest [] = 0
highest (d ∷ ds) = max d.state.number (highest ds)

highest-over : (ds : List View) → All (λ d. d.state.number ≤ highest ds) ds
unfolding highest
highest-over [] = All-nil (λ d. d.state.number ≤ 0)
highest-over (d ∷ ds) =
    All-cons (λ c. c.state.number ≤ max d.state.number (highest ds)) d ds (omega arith)
    (All-weaker (λ c. c.state.number ≤ highest ds) (λ c. c.state.number ≤ max d.state.number (highest ds))
    (λ c le. omega (arith, le)) ds (highest-over ds))

highest-under : (ds : List View) (m : ℕ) → All (λ d. d.state.number ≤ m) ds → highest ds ≤ m
unfolding highest
highest-under [] m all = omega arith
highest-under (d ∷ ds) m all =
    let one : d.state.number ≤ m = All-head (λ c. c.state.number ≤ m) d ds all in
    let more : highest ds ≤ m = highest-under ds m (All-tail (λ c. c.state.number ≤ m) d ds all) in
    omega (arith, one, more)

-- the desk was a new one of a hall that began with the loaded entries, and these calls brought it to its state
pub record IsWorkOf (capacity : ℕ) (loaded : List Entry) (calls : List Call) (desk : DeskState) : Type 0 where
  pub first : DeskState
  pub new : IsNew loaded first
  pub does : PerformsAll capacity first calls desk

-- One run, by the calls at each number: the hall makes each desk, and the desk looks and makes its calls. No call is
-- made at a desk of another number.
pub record Merged (capacity : ℕ) (loaded history : List Entry) (desks : List View) (calls : ℕ → List Call)
    : Type 0 where
  pub steps : List HallStep
  pub hall : Hall
  pub run : IsRun capacity loaded (hall_begun loaded) steps hall
  pub whole : hall.history ≡ history
  pub ends : All (λ d. hall.desks d.state.number ≡ Some d.state) desks
  pub parts : All (λ d. steps_of d.state.number steps
      ≡ Desk d.state.number ∷ map (At d.state.number) (See ∷ calls d.state.number)) desks
  pub others : (n : ℕ) → (HasNumber desks n → ⊥) → (steps_of n steps ≡ []) ⊎ (steps_of n steps ≡ Desk n ∷ [])

-- the desk has its number from the first
kept-number : (capacity : ℕ) (loaded : List Entry) (calls : List Call) (d : DeskState)
    → (w : IsWorkOf capacity loaded calls d) → d.number ≡ w.first.number
kept-number capacity loaded calls d w = (goes capacity w.first calls d w.does).number

-- a desk with the loaded entries looks, and is the new desk
looks : (capacity : ℕ) (loaded : List Entry) (calls : List Call) (d : DeskState)
    → (w : IsWorkOf capacity loaded calls d) → TakesIn (new_desk d.number loaded) w.first
looks capacity loaded calls d w =
    let more : List Entry = w.new.begun.0 in
    let looked : DeskState =
    record (new_desk d.number loaded) { seen = loaded ++ more; told = [] ++ notices None loaded more } in
    record {
      entries = more;
      is = w.new.is ∙ state_eq (new_desk w.first.number w.first.seen) looked
          (sym (kept-number capacity loaded calls d w)) refl (sym w.new.begun.1) refl
          (sym (notices-none loaded more));
    }

pub merged : (capacity : ℕ) (loaded history : List Entry) (desks : List View) (calls : ℕ → List Call)
    → IsSettled loaded desks history → All (λ d. IsWorkOf capacity loaded (calls d.state.number) d.state) desks
    → Merged capacity loaded history desks calls
merged capacity loaded history desks calls settled work = record {
  steps = g.steps ++ r.steps;
  hall = r.later;
  run = run-append capacity loaded (hall_begun loaded) g.hall r.later g.steps r.steps g.run r.run;
  whole = r.whole;
  ends = r.ends;
  parts = λ k x lt. let m : ℕ = (get_or desks k x).state.number in
      part-append m g.steps r.steps
      ∙ ap (λ (xs : List HallStep). xs ++ steps_of m r.steps) (g.part m (from k x lt) (over k x lt))
      ∙ ap (λ (xs : List HallStep). Desk m ∷ xs) (r.parts k x lt);
  others = λ n nobody. idle n nobody (cases_lt n 1) (cases_lt top n);
}
  where
    from : (k : ℕ) (x : View) → k < length desks → 1 ≤ (get_or desks k x).state.number
    from k x lt =
        let w = work k x lt in
        let same = kept-number capacity loaded (calls (get_or desks k x).state.number) (get_or desks k x).state w in
        omega (arith, same, w.new.from)

    to : All (λ d. d.state.number ≤ MOST_DESKS) desks
    to k x lt =
        let w = work k x lt in
        let same = kept-number capacity loaded (calls (get_or desks k x).state.number) (get_or desks k x).state w in
        omega (arith, same, w.new.to)

    top : ℕ
    top = highest desks

    over : (k : ℕ) (x : View) → k < length desks → (get_or desks k x).state.number ≤ top
    over k x lt = highest-over desks k x lt

    g : Given capacity loaded top
    g = gives capacity loaded top (highest-under desks MOST_DESKS to)

    stand : All (Stands capacity g.hall (entries_made loaded history) (λ n. See ∷ calls n)) desks
    stand k x lt =
        let d : View = get_or desks k x in
        let w : IsWorkOf capacity loaded (calls d.state.number) d.state = work k x lt in
        record {
          now = new_desk d.state.number loaded;
          at = g.at d.state.number (from k x lt) (over k x lt);
          does = (w.first, looks capacity loaded (calls d.state.number) d.state w, w.does);
          calls = settled.calls k x lt
              ∙ ap (λ (h : List Entry). versions_by d.state.number (length h + 1) (entries_made loaded history))
              (sym g.history);
        }

    r : Ends capacity loaded g.hall (λ n. See ∷ calls n) desks history
    r =
        runs capacity loaded desks history settled.apart settled.gathered.known (entries_made loaded history) g.hall
        (λ n. See ∷ calls n) stand settled.named
        (ap (λ (h : List Entry). h ++ entries_made loaded history) g.history
        ∙ behind loaded history settled.gathered.begun)

    idle : (n : ℕ) → (HasNumber desks n → ⊥) → (n < 1) ⊎ (1 ≤ n) → (top < n) ⊎ (n ≤ top)
        → (steps_of n (g.steps ++ r.steps) ≡ []) ⊎ (steps_of n (g.steps ++ r.steps) ≡ Desk n ∷ [])
    idle n nobody (inl low) other =
        inl (part-append n g.steps r.steps
        ∙ ap (λ (xs : List HallStep). xs ++ steps_of n r.steps) (g.none n (inl low)) ∙ r.others n nobody)
    idle n nobody (inr some) (inl high) =
        inl (part-append n g.steps r.steps
        ∙ ap (λ (xs : List HallStep). xs ++ steps_of n r.steps) (g.none n (inr high)) ∙ r.others n nobody)
    idle n nobody (inr some) (inr least) =
        inr (part-append n g.steps r.steps
        ∙ ap (λ (xs : List HallStep). xs ++ steps_of n r.steps) (g.part n some least)
        ∙ ap (λ (xs : List HallStep). Desk n ∷ xs) (r.others n nobody))
