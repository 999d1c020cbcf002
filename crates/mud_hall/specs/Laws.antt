-- Laws of the definitions.
use Rattle.std.specs.Prelude.{◌≡◌, ℕ, List, length, take, Option, Some, IsTrue, ◌++◌, codes, IsSomeAnd}
use mathlib.Core.List.{IsPrefix}
use Rattle.mud_world.specs.State.{State, is_player, place_of}
use Rattle.mud_roads.specs.declared.label.Step.{Step}
use Rattle.mud_roads.specs.Walks.{Walk}
use Rattle.mud_roads.specs.Passable.{roads_of}
use Rattle.mud_roads.specs.Laws.{IsWalked}
use Rattle.mud_rules.specs.declared.verdict.Query.TheVariants as query
use Rattle.mud_rules.specs.declared.verdict.Verdict.{Verdict}
use Rattle.mud_rules.specs.declared.verdict.Verdict.TheVariants as verdict
use Rattle.mud_chron.specs.Entry.{Entry}
use Rattle.mud_hall.specs.Notices.{world_after}
use Rattle.mud_hall.specs.Answers.{Answered}
use Rattle.mud_hall.specs.Steps.{Hall, AreLoadable, Begins, HallStep, IsRun}
use Rattle.mud_hall.specs.Right.{TellsJourney, IsCertified}
use Rattle.mud_cert.specs.Text.{cert_text}

-- an answer about a journey after these entries: its version, its text in their world, and its certificate are right
abbrev pub IsRight : List Entry → Option ℕ → Verdict → Answered → Type 0
IsRight h (Some p) (verdict.Ask (query.Journey journey)) a =
    (a.version ≡ length h) × TellsJourney (world_after h) p journey a.text a.cert × IsCertified h a.cert
IsRight h (Some p) (verdict.Ask (query.Proof journey)) a =
    (text : List ℕ) × (a.version ≡ length h) × TellsJourney (world_after h) p journey text a.cert
    × IsSomeAnd a.cert (λ c. a.text ++ codes "\n" ≡ codes "proof\n" ++ cert_text c) × IsCertified h a.cert
IsRight h player other a = Unit {0}

-- In every run a hall can begin with the history, and the history is a prefix of every later history of the run.
abbrev pub HistoryGoesOn : Type 0
HistoryGoesOn =
    (capacity : ℕ) (loaded : List Entry) (begin : Hall) → Begins capacity loaded begin
    → (steps : List HallStep) (hall : Hall) → IsRun capacity loaded begin steps hall
    → (more : List HallStep) (later : Hall) → IsRun capacity loaded hall more later
    → AreLoadable capacity later.history × IsPrefix hall.history later.history

-- from the world after some entries, the changes by the exits of a player's walk are legal, and end where it leads
abbrev pub WalksGo : Type 0
WalksGo =
    (h : List Entry) (v p from to : ℕ) (ss : List Step) → let w : State = world_after (take v h) in
    IsTrue (is_player w p) → place_of w p ≡ Some from → Walk (roads_of w p) from ss to → IsWalked w p ss to
