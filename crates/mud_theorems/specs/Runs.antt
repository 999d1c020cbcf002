-- The calls of several callers, each at a desk of its own, as one run of their hall.
use Rattle.std.specs.Prelude.{◌≡◌, ◌≢◌, ℕ, ◌==◌, List, ◌∷◌, map, Some, All}
use Rattle.std.specs.List.{filter, AllPairs}
use Rattle.mud_chron.specs.Entry.{Entry}
use Rattle.mud_hall.specs.Desk.{DeskState, IsNew}
use Rattle.mud_hall.specs.Steps.{Call, See, PerformsAll, Hall, hall_begun, HallStep, Desk, Learn, At, IsRun}

-- the calls at a desk, in order, with the desk before and after them
pub record Work : Type 0 where
  pub first : DeskState
  pub calls : List Call
  pub desk : DeskState

-- the desk was a new one of a hall that began with the loaded entries, and these calls brought it to its state
pub record IsWork (capacity : ℕ) (loaded : List Entry) (work : Work) : Type 0 where
  pub new : IsNew loaded work.first
  pub does : PerformsAll capacity work.first work.calls work.desk

-- the number of the desk whose step it is
abbrev pub number_of : HallStep → ℕ
number_of (Desk s) = s
number_of (Learn s t) = s
number_of (At s call) = s

-- the steps of desk n, in order
abbrev pub steps_of : ℕ → List HallStep → List HallStep
steps_of n steps = filter (λ step. number_of step == n) steps

-- in a run the hall makes the desk, and the desk looks and makes its calls; it has no other step
pub record IsPart (steps : List HallStep) (hall : Hall) (work : Work) : Type 0 where
  pub ends : hall.desks work.desk.number ≡ Some work.desk
  pub part : steps_of work.desk.number steps
      ≡ Desk work.desk.number ∷ map (At work.desk.number) (See ∷ work.calls)

-- one run, which ends with this history: each work is the part of a desk of its own. No call is made at a desk of
-- another number
pub record AreOneRun (capacity : ℕ) (loaded history : List Entry) (works : List Work) : Type 0 where
  pub steps : List HallStep
  pub hall : Hall
  pub run : IsRun capacity loaded (hall_begun loaded) steps hall
  pub whole : hall.history ≡ history
  pub apart : AllPairs (λ a b. a.desk.number ≢ b.desk.number) works
  pub parts : All (IsPart steps hall) works
  pub others : (n : ℕ) → All (λ w. w.desk.number ≢ n) works → All (λ step. step ≡ Desk n) (steps_of n steps)
