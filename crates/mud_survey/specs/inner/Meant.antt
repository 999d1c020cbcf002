-- The players that words mean, one by one.
use Rattle.std.specs.Prelude.{ℕ, Bool, true, false, ◌&&◌, ◌||◌, nat_eq, List, [], ◌∷◌}
use Rattle.std.specs.List.{AllZip, list_any}
use Rattle.mud_world.specs.State.{State, is_player}
use Rattle.mud_survey.specs.declared.party.Unmeant.{Unmeant}
use Rattle.mud_survey.specs.declared.party.Unmeant.TheVariants.{OutOfMemory, NoPlayer}
use Rattle.mud_survey.specs.Answer.{MeansPlayer, MeansNobody}

-- each word means the player at its place
abbrev pub AreMeant : State → List (List ℕ) → List ℕ → Type 0
AreMeant w words ps = AllZip (MeansPlayer w) words ps

-- the word at the place means no player, unless memory ran out
abbrev pub IsUnmeant : State → List (List ℕ) → Unmeant → Type 0
IsUnmeant w words OutOfMemory = Unit {0}
IsUnmeant w words (NoPlayer place) = MeansNobody w words place

-- the list is empty
abbrev pub is_none_of : List ℕ → Bool
is_none_of [] = true
is_none_of (n ∷ ns) = false

-- a player, and one of these, if there are some
abbrev pub is_in : State → List ℕ → ℕ → Bool
is_in w meant n = is_player w n && (is_none_of meant || list_any (nat_eq n) meant)
