-- Consequences of the table.
use Rattle.std.specs.Prelude.{◌≡◌, ℕ, IsTrue, Option, Some, None}
use Rattle.mud_world.specs.declared.change.Change.{Change}
use Rattle.mud_world.specs.declared.change.Deed.{Deed}
use Rattle.mud_world.specs.declared.change.Deed.TheVariants.{Dig, Make, Lock, Cost, Rename}
use Rattle.mud_world.specs.declared.change.Target.TheVariants.{New}
use Rattle.mud_world.specs.declared.change.Target.{Target}
use Rattle.mud_world.specs.declared.change.Doors.{Doors}
use Rattle.mud_world.specs.declared.refusal.Refusal.{Refusal}
use Rattle.mud_world.specs.declared.refusal.Refusal.TheVariants.{BadName, BadKey, BadCost}
use Rattle.mud_words.specs.Line.{Line}
use Rattle.mud_world.specs.DeedParts.{HasParts}
use Rattle.mud_world.specs.State.{State}
use Rattle.mud_world.specs.Legal.{refusal}
use Rattle.mud_rules.specs.declared.verdict.Verdict.TheVariants.{Ask}
use Rattle.mud_rules.specs.Outcome.{does}
use Rattle.mud_rules.specs.declared.verdict.Query.{Query}
use Rattle.mud_rules.specs.Table.{decision, is_question}

-- ---- unreadable texts

-- if the command refuses by its own refusal, the verdict does not depend on the text
abbrev pub IsAlike : {A : Type 0} → State → ℕ → Refusal → (A → Deed) → Type 0
IsAlike {A} w p own deed = (x y : A) → does w p (Some own) (deed x) ≡ does w p (Some own) (deed y)

-- each unreadable text is refused as any readable text would be
pub record IsAlikeWhateverIsRead (w : State) (p : ℕ) : Type 0 where
  pub names : IsAlike w p BadName Make
  pub renaming : (x : ℕ) → IsAlike w p BadName (Rename x)
  pub room : (doors : Option Doors) → IsAlike w p BadName (λ names. Dig (New names) doors)
  pub exits : (target : Target) → IsAlike w p BadName (λ doors. Dig target (Some doors))
  pub key : (x : ℕ) → IsAlike w p BadKey (Lock x)
  pub cost : (x : ℕ) → IsAlike w p BadCost (Cost x)

-- ---- changes of lines

-- the change is legal, and its names, keys and texts are valid
pub record IsMade (w : State) (e : Change) : Type 0 where
  pub legal : refusal w e ≡ None
  pub parts : HasParts e.deed

-- ---- questions of lines

-- only the verb of a question asks, for every player
abbrev pub AreQuestions : Type 0
AreQuestions =
    (w : State) (player : Option ℕ) (l : Line) (q : Query) → decision w player l ≡ Ask q → IsTrue (is_question l)
