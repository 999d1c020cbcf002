-- Combining the refusals of a line.
use Rattle.std.specs.Prelude.{◌≡◌, ℕ, nat_lt, Bool}
use Rattle.std.specs.Prelude.{Option, None, is_none, unwrap_or, Result, Ok, Err, IsTrue, if◌then◌else◌}
use Rattle.std.specs.Option.{option_map_or}
use Rattle.mud_world.specs.declared.change.Change.{Change}
use Rattle.mud_world.specs.declared.change.Deed.{Deed}
use Rattle.mud_world.specs.declared.refusal.Refusal.{Refusal}
use Rattle.mud_world.specs.declared.refusal.Refusal.TheVariants.{NotUnderstood, Ambiguous, WrongKind}
use Rattle.mud_world.specs.Refusals.{number, refused_if, lesser}
use Rattle.mud_world.specs.State.{State, is_player}
use Rattle.mud_world.specs.Legal.{refusal}
use Rattle.mud_rules.specs.declared.matching.Match.{Match}
use Rattle.mud_rules.specs.declared.matching.Match.TheVariants.{Ambiguous as MeansSeveral}
use Rattle.mud_rules.specs.declared.verdict.Verdict.{Verdict}
use Rattle.mud_rules.specs.declared.verdict.Verdict.TheVariants.{Change as Changes, Ask, Become, Refused}
use Rattle.mud_rules.specs.inner.Outcome.{IsActor, IsQuestion}

-- ---- a change and its refusals

-- a change, or its refusal: the lesser of the command's own refusal and the first one whose condition holds
unfoldable pub outcome : State → Option Refusal → Change → Verdict
outcome w own e = option_map_or Refused (lesser own (refusal w e)) (Changes e)

-- a deed of player p, or its refusal
abbrev pub does : State → ℕ → Option Refusal → Deed → Verdict
does w p own deed = outcome w own (record { actor = p; deed = deed })

-- the deed with the value read; without one `own` refuses it, and `blank` or any other would do (`whatever_is_read`)
abbrev pub does_read : {A : Type 0} → State → ℕ → Refusal → A → Option A → (A → Deed) → Verdict
does_read w p own blank read deed = does w p (refused_if (is_none read) own) (deed (unwrap_or read blank))

-- ---- the objects of a line, or its refusal

-- the object that was found; several are ambiguous, and none gives this refusal
abbrev pub object_meant : Refusal → Result ℕ Match → Result ℕ Refusal
object_meant none (Ok x) = Ok x
object_meant none (Err MeansSeveral) = Err Ambiguous
object_meant none (Err other) = Err none

-- the object that was found, if it is of the wanted kind
abbrev pub of_kind : (ℕ → Bool) → Result ℕ Refusal → Result ℕ Refusal
of_kind wanted (Ok n) = if wanted n then Ok n else Err WrongKind
of_kind wanted (Err f) = Err f

-- two objects, if both were found; otherwise the refusal with the lower number
abbrev pub both : Result ℕ Refusal → Result ℕ Refusal → Result (ℕ × ℕ) Refusal
both (Ok x) (Ok y) = Ok (x, y)
both (Ok x) (Err g) = Err g
both (Err f) (Ok y) = Err f
both (Err f) (Err g) = Err (if nat_lt (number g) (number f) then g else f)

-- continues with the value that was found
abbrev pub on_found : {A : Type 0} → Result A Refusal → (A → Verdict) → Verdict
on_found (Ok x) meaning = meaning x
on_found (Err f) meaning = Refused f

-- a line of another shape is not understood
abbrev pub if_shaped : Bool → Verdict → Verdict
if_shaped fits v = if fits then v else Refused NotUnderstood

-- ---- facts about all verdicts

-- the consequences of a verdict. A reader need not look into this: the clause `decision` states the verdict
abbrev pub IsLawful : State → Option ℕ → Verdict → Type 0
IsLawful w player (Changes e) = (refusal w e ≡ None) × IsActor w player e
IsLawful w player (Ask query) = IsQuestion w query
IsLawful w player (Become n) = IsTrue (is_player w n)
IsLawful w player (Refused f) = Unit {0}
