-- Desks with their calls, by lists and by the desks' numbers.
use Rattle.std.proofs.Common.{◌≡◌, ◌≢◌, ℕ, List, [], ◌∷◌, map, get_or, refl, sym, ap, subst, arith, cond, eqb}
use Rattle.std.specs.Prelude.{All}
use Rattle.std.specs.List.{AllZip, AllPairs}
use Rattle.std.proofs.lemmas.Bool.{eq-eqb, ne_eqb}
use Rattle.std.proofs.lemmas.List.Elements.{All-nil, All-cons, All-head, All-tail}
use Rattle.std.proofs.lemmas.List.Kept.{AllPairs-cons}
use Rattle.mud_chron.specs.Entry.{Entry}
use Rattle.mud_hall.specs.Desk.{DeskState, View}
use Rattle.mud_hall.specs.Settlement.{AreApart}
use Rattle.mud_hall.specs.Steps.{Call, PerformsAll}
use Rattle.mud_theorems.specs.Runs.{Work, IsWork}
use Rattle.mud_theorems.proofs.Merging.{IsWorkOf, apart-first, apart-more}

-- ---- by the number of the desk

abbrev pub calls_by : List View → List (List Call) → ℕ → List Call
calls_by [] calls n = []
calls_by (d ∷ ds) [] n = []
calls_by (d ∷ ds) (mine ∷ calls) n = cond (eqb d.state.number n) mine (calls_by ds calls n)

mine-is : (d : View) (ds : List View) (mine : List Call) (calls : List (List Call))
    → calls_by (d ∷ ds) (mine ∷ calls) d.state.number ≡ mine
mine-is d ds mine calls =
    ap (λ b. cond b mine (calls_by ds calls d.state.number)) (eq-eqb d.state.number d.state.number refl)

other-is : (d : View) (ds : List View) (mine : List Call) (calls : List (List Call)) (n : ℕ) → d.state.number ≢ n
    → calls_by (d ∷ ds) (mine ∷ calls) n ≡ calls_by ds calls n
other-is d ds mine calls n apart = ap (λ b. cond b mine (calls_by ds calls n)) (ne_eqb d.state.number n apart)

pub by_number : (R : View → List Call → Type 0) (desks : List View) (calls : List (List Call)) → AreApart desks
    → AllZip R desks calls → All (λ d. R d (calls_by desks calls d.state.number)) desks
by_number R [] calls apart all = All-nil (λ d. R d (calls_by [] calls d.state.number))
by_number R (d ∷ ds) [] apart all = absurd all
by_number R (d ∷ ds) (mine ∷ calls) apart (one, more) =
    All-cons (λ c. R c (calls_by (d ∷ ds) (mine ∷ calls) c.state.number)) d ds
    (subst (R d) (sym (mine-is d ds mine calls)) one)
    (λ k x lt. subst (λ (cs : List Call). R (get_or ds k x) cs)
    (sym (other-is d ds mine calls (get_or ds k x).state.number (apart-first d ds apart k x lt)))
    (by_number R ds calls (apart-more d ds apart) more k x lt))

pub by_list : (R Q : View → List Call → Type 0) (desks : List View) (calls : List (List Call)) → AreApart desks
    → AllZip R desks calls → All (λ d. Q d (calls_by desks calls d.state.number)) desks → AllZip Q desks calls
by_list R Q [] [] apart all each = tt
by_list R Q [] (c ∷ calls) apart all each = absurd all
by_list R Q (d ∷ ds) [] apart all each = absurd all
by_list R Q (d ∷ ds) (mine ∷ calls) apart (one, more) each = (
  subst (Q d) (mine-is d ds mine calls)
      (All-head (λ c. Q c (calls_by (d ∷ ds) (mine ∷ calls) c.state.number)) d ds each),
  by_list R Q ds calls (apart-more d ds apart) more
      (λ k x lt. subst (λ (cs : List Call). Q (get_or ds k x) cs)
      (other-is d ds mine calls (get_or ds k x).state.number
      (apart-first d ds apart k x lt))
      (All-tail (λ c. Q c (calls_by (d ∷ ds) (mine ∷ calls) c.state.number)) d ds each k x lt)),
)

-- ---- the desks of works

-- each desk is that of its work
abbrev pub Same : List View → List Work → Type 0
Same desks works = AllZip (λ d w. d.state ≡ w.desk) desks works

pub same : (desks : List View) (works : List Work) → map (λ d. d.state) desks ≡ map (λ w. w.desk) works
    → Same desks works
same [] [] e = tt
same [] (w ∷ works) e = absurd (cc)
same (d ∷ ds) [] e = absurd (cc)
same (d ∷ ds) (w ∷ works) e =
    let head : d.state ≡ w.desk = cc in
    let tail : map (λ (x : View). x.state) ds ≡ map (λ (y : Work). y.desk) works = cc in
    (head, same ds works tail)

-- a property of the desks is one of the works' desks, and the other way round
pub to_works : (P : DeskState → Type 0) (desks : List View) (works : List Work) → Same desks works
    → All (λ d. P d.state) desks → All (λ w. P w.desk) works
to_works P [] [] s all = All-nil (λ (w : Work). P w.desk)
to_works P [] (w ∷ works) s all = absurd s
to_works P (d ∷ ds) [] s all = absurd s
to_works P (d ∷ ds) (w ∷ works) (one, more) all =
    All-cons (λ (y : Work). P y.desk) w works (subst P one (All-head (λ (x : View). P x.state) d ds all))
    (to_works P ds works more (All-tail (λ (x : View). P x.state) d ds all))

pub to_desks : (P : DeskState → Type 0) (desks : List View) (works : List Work) → Same desks works
    → All (λ w. P w.desk) works → All (λ d. P d.state) desks
to_desks P [] [] s all = All-nil (λ (d : View). P d.state)
to_desks P [] (w ∷ works) s all = absurd s
to_desks P (d ∷ ds) [] s all = absurd s
to_desks P (d ∷ ds) (w ∷ works) (one, more) all =
    All-cons (λ (x : View). P x.state) d ds (subst P (sym one) (All-head (λ (y : Work). P y.desk) w works all))
    (to_desks P ds works more (All-tail (λ (y : Work). P y.desk) w works all))

pub apart_works : (desks : List View) (works : List Work) → Same desks works → AreApart desks
    → AllPairs (λ a b. a.desk.number ≢ b.desk.number) works
apart_works [] [] s apart = λ i j x less lt. absurd (omega (arith, lt))
apart_works [] (w ∷ works) s apart = absurd s
apart_works (d ∷ ds) [] s apart = absurd s
apart_works (d ∷ ds) (w ∷ works) (one, more) apart =
    AllPairs-cons (λ (a b : Work). a.desk.number ≢ b.desk.number) w works
    (subst (λ (x : DeskState). All (λ (b : Work). x.number ≢ b.desk.number) works) one
    (to_works (λ x. d.state.number ≢ x.number) ds works more (apart-first d ds apart)))
    (apart_works ds works more (apart-more d ds apart))

-- the calls of works, beside the desks
pub with_calls : (capacity : ℕ) (loaded : List Entry) (desks : List View) (works : List Work) → Same desks works
    → All (IsWork capacity loaded) works
    → AllZip (λ d mine. IsWorkOf capacity loaded mine d.state) desks (map (λ w. w.calls) works)
with_calls capacity loaded [] [] s all = tt
with_calls capacity loaded [] (w ∷ works) s all = absurd s
with_calls capacity loaded (d ∷ ds) [] s all = absurd s
with_calls capacity loaded (d ∷ ds) (w ∷ works) (one, more) all =
    let mine : IsWork capacity loaded w = All-head (IsWork capacity loaded) w works all in (
      record {
        first = w.first;
        new = mine.new;
        does = subst (λ (x : DeskState). PerformsAll capacity w.first w.calls x) (sym one) mine.does;
      },
      with_calls capacity loaded ds works more (All-tail (IsWork capacity loaded) w works all),
    )

-- and back
pub of_works : (P : DeskState → List Call → Type 0) (desks : List View) (works : List Work) → Same desks works
    → AllZip (λ d mine. P d.state mine) desks (map (λ w. w.calls) works) → All (λ w. P w.desk w.calls) works
of_works P [] [] s all = All-nil (λ (w : Work). P w.desk w.calls)
of_works P [] (w ∷ works) s all = absurd s
of_works P (d ∷ ds) [] s all = absurd s
of_works P (d ∷ ds) (w ∷ works) (one, more) (mine, others) =
    All-cons (λ (y : Work). P y.desk y.calls) w works (subst (λ (x : DeskState). P x w.calls) one mine)
    (of_works P ds works more others)
