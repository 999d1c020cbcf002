-- Settled works are one run.
use Rattle.std.proofs.Common.{◌≡◌, ◌≢◌, ◌⊎◌, inl, inr, ℕ, List, [], ◌∷◌, map, Some, refl, sym, ◌∙◌, ap, subst}
use Rattle.std.specs.Prelude.{All}
use Rattle.std.specs.List.{AllZip}
use Rattle.std.proofs.lemmas.List.Elements.{All-nil, All-cons}
use Rattle.mud_hall.specs.Desk.{DeskState, View}
use Rattle.mud_hall.specs.Settlement.{HasNumber}
use Rattle.mud_hall.specs.Steps.{Call, See, Hall, AreLoadable, hall_begun, HallStep, Desk, At}
use Rattle.mud_hall.specs.Laws.{HistoryGoesOn}
use Rattle.mud_theorems.specs.Runs.{steps_of}
use Rattle.mud_theorems.specs.Laws.{ThreadsMakeRuns}
use Rattle.mud_theorems.proofs.Merging.{IsWorkOf, Merged, merged}
use Rattle.mud_theorems.proofs.Listing.{calls_by, by_number, by_list, Same, same, to_desks, apart_works}
use Rattle.mud_theorems.proofs.Listing.{with_calls, of_works}

-- the part of a desk, by its calls
record Ends (steps : List HallStep) (hall : Hall) (desk : DeskState) (calls : List Call) : Type 0 where
  ends : hall.desks desk.number ≡ Some desk
  part : steps_of desk.number steps ≡ Desk desk.number ∷ map (At desk.number) (See ∷ calls)

-- if a desk of this number is made or not, no other step is one of it
only-given : (n : ℕ) (steps : List HallStep) → (steps ≡ []) ⊎ (steps ≡ Desk n ∷ []) → All (λ step. step ≡ Desk n) steps
only-given n steps (inl none) =
    subst (λ (xs : List HallStep). All (λ step. step ≡ Desk n) xs) (sym none) (All-nil (λ step. step ≡ Desk n))
only-given n steps (inr one) =
    subst (λ (xs : List HallStep). All (λ step. step ≡ Desk n) xs) (sym one)
    (All-cons (λ step. step ≡ Desk n) (Desk n) [] refl (All-nil (λ step. step ≡ Desk n)))

pub threads_make_runs : HistoryGoesOn → ThreadsMakeRuns
threads_make_runs going_on capacity loaded history desks works settled are all = (
  record {
    steps = r.steps;
    hall = r.hall;
    run = r.run;
    whole = r.whole;
    apart = apart_works desks works these settled.apart;
    parts = λ k x lt. let p = mine k x lt in record { ends = p.ends; part = p.part };
    others = λ n none. only-given n (steps_of n r.steps) (r.others n (nobody n none));
  },
  λ loadable.
      subst (AreLoadable capacity) r.whole
      (going_on capacity loaded (hall_begun loaded) (inl (loadable, refl)) r.steps r.hall r.run [] r.hall refl).0,
)
  where
    these : Same desks works
    these = same desks works are

    calls : List (List Call)
    calls = map (λ w. w.calls) works

    does : AllZip (λ d cs. IsWorkOf capacity loaded cs d.state) desks calls
    does = with_calls capacity loaded desks works these all

    r : Merged capacity loaded history desks (calls_by desks calls)
    r =
        merged capacity loaded history desks (calls_by desks calls) settled
        (by_number (λ d cs. IsWorkOf capacity loaded cs d.state) desks calls settled.apart does)

    mine : All (λ w. Ends r.steps r.hall w.desk w.calls) works
    mine =
        of_works (Ends r.steps r.hall) desks works these
        (by_list (λ d cs. IsWorkOf capacity loaded cs d.state) (λ d cs. Ends r.steps r.hall d.state cs) desks calls
        settled.apart does (λ k x lt. record { ends = r.ends k x lt; part = r.parts k x lt }))

    nobody : (n : ℕ) → All (λ w. w.desk.number ≢ n) works → HasNumber desks n → ⊥
    nobody n none (k, x, lt, eq, is) =
        to_desks (λ d. d.number ≢ n) desks works these none k x lt
        (ap (λ (d : View). d.state.number) eq ∙ is)
