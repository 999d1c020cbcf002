-- Lawful verdicts, by their kind.
use Rattle.std.specs.Prelude.{◌≡◌, ℕ, true, false}
use Rattle.std.specs.Prelude.{Option, Some, IsTrue}
use Rattle.std.specs.List.{All}
use Rattle.mud_world.specs.declared.change.Change.{Change}
use Rattle.mud_world.specs.State.{State, is_room, is_player}
use Rattle.mud_world.specs.Legal.{is_arrival}
use Rattle.mud_rules.specs.declared.verdict.Journey.{Journey}
use Rattle.mud_rules.specs.declared.verdict.Journey.TheVariants.{Route, Meet}
use Rattle.mud_rules.specs.declared.verdict.Query.{Query}
use Rattle.mud_rules.specs.Party.{IsParty}
use Rattle.mud_rules.specs.declared.verdict.Query.TheVariants as query

-- ---- facts about all verdicts

-- the player is the actor; the actor of a new player is the next number
pub record IsActor (w : State) (player : Option ℕ) (e : Change) : Type 0 where
  pub old : is_arrival e.deed ≡ false → player ≡ Some e.actor
  pub new : is_arrival e.deed ≡ true → e.actor ≡ w.next

-- a requested room is a room of the world, and a meeting is of a party of its players
abbrev pub IsJourney : State → Journey → Type 0
IsJourney w (Route to) = IsTrue (is_room w to)
IsJourney w (Meet party) = All (λ p. IsTrue (is_player w p)) party × IsParty party

-- the facts about every question
abbrev pub IsQuestion : State → Query → Type 0
IsQuestion w (query.Journey journey) = IsJourney w journey
IsQuestion w (query.Proof journey) = IsJourney w journey
IsQuestion w other = Unit {0}
