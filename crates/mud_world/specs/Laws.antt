-- Laws of the definitions.
use Rattle.std.specs.Prelude.{◌≡◌, ℕ, ◌≤◌, ◌↔◌, List, false, nat_eq, true, Some, None, IsTrue}
use Rattle.std.proofs.Common.{suc}
use Rattle.std.specs.Option.{option_map_or}
use Rattle.std.specs.List.{list_any}
use Rattle.mud_key.specs.Tree.{Tree}
use Rattle.mud_world.specs.declared.change.Change.{Change}
use Rattle.mud_world.specs.declared.change.Deed.TheVariants.{Player}
use Rattle.mud_world.specs.declared.refusal.Refusal.{Refusal}
use Rattle.mud_world.specs.Truth.{key_true}
use Rattle.mud_world.specs.Numbers.{IsRisingFrom}
use Rattle.mud_world.specs.State.{State, has, is_player, place_of, contents_of, Within, within, source_of, leaving_of}
use Rattle.mud_world.specs.State.{destination_of, arriving_of, key_of, nests, unlocked}
use Rattle.mud_world.specs.Reach.{InReach, in_reach}
use Rattle.mud_world.specs.Sound.{IsSound}
use Rattle.mud_world.specs.Nesting.{Questions}
use Rattle.mud_world.specs.Refusals.{number}
use Rattle.mud_world.specs.Legal.{fails, refusal, after}
use Rattle.mud_world.specs.History.{world_of}

-- in a sound world an object is in the contents of c exactly if its place is c, and contents are sorted
abbrev pub AreContents : Type 0
AreContents =
    (w : State) → IsSound w → (c : ℕ)
    → ((n : ℕ) → IsTrue (list_any (nat_eq n) (contents_of w c)) ↔ (place_of w n ≡ Some c))
    × IsRisingFrom 0 (contents_of w c)

-- in a sound world an exit is listed as leaving c exactly if its source is c, and that list is sorted
abbrev pub AreLeaving : Type 0
AreLeaving =
    (w : State) → IsSound w → (c : ℕ)
    → ((n : ℕ) → IsTrue (list_any (nat_eq n) (leaving_of w c)) ↔ (source_of w n ≡ Some c))
    × IsRisingFrom 0 (leaving_of w c)

-- in a sound world an exit is listed as arriving at c exactly if its destination is c, and that list is sorted
abbrev pub AreArriving : Type 0
AreArriving =
    (w : State) → IsSound w → (c : ℕ)
    → ((n : ℕ) → IsTrue (list_any (nat_eq n) (arriving_of w c)) ↔ (destination_of w n ≡ Some c))
    × IsRisingFrom 0 (arriving_of w c)

-- in a sound world the test `within` holds exactly if o is inside c
abbrev pub IsContainment : Type 0
IsContainment = (w : State) → IsSound w → (o c : ℕ) → IsTrue (within w o c) ↔ Within w o c

-- in a sound world the test `in_reach` holds exactly if o is in reach of the actor
abbrev pub IsReach : Type 0
IsReach = (w : State) → IsSound w → (actor o : ℕ) → IsTrue (in_reach w actor o) ↔ InReach w actor o

-- in a sound world the levels of a key never run out: o is unlocked for c exactly if it exists, and has no key or a
-- true one. In that key an object is true if it is inside c, and `?x` if x is unlocked for c
abbrev pub AreLevelsEnough : Type 0
AreLevelsEnough =
    (w : State) → IsSound w → (c o : ℕ)
    → unlocked w c o ≡ has w o (λ r. option_map_or (key_true (λ a. within w a c) (unlocked w c)) r.key true)

-- a key nests at most n exactly if every chain of questions from its object has at most n questions
abbrev pub IsNesting : Type 0
IsNesting =
    (w : State) (a : ℕ) (k : Tree ℕ) → key_of w a ≡ Some k
    → (n : ℕ) → IsTrue (nests w n k) ↔ ((m b : ℕ) → Questions w m a b → m ≤ n)

-- a key on a cycle of questions nests deeper than any number of levels
abbrev pub CirclesNestOn : Type 0
CirclesNestOn =
    (w : State) (a m : ℕ) (k : Tree ℕ) → Questions w (suc m) a a → key_of w a ≡ Some k → (n : ℕ) → nests w n k ≡ false

-- the refusal's condition holds, and no condition of a refusal with a lower number does
pub record IsLeastRefusal (w : State) (e : Change) (f : Refusal) : Type 0 where
  pub holds : IsTrue (fails w e f)
  pub least : (g : Refusal) → IsTrue (fails w e g) → number f ≤ number g

-- a legal change of a sound world leaves a sound world
abbrev pub StaysSound : Type 0
StaysSound = (w : State) (e : Change) → IsSound w → refusal w e ≡ None → IsSound (after w e)

-- the world of any changes is sound, because illegal changes have no effect
abbrev pub WorldsAreSound : Type 0
WorldsAreSound = (changes : List Change) → IsSound (world_of changes)

-- a player remains a player in each legal change
abbrev pub PlayersStay : Type 0
PlayersStay =
    (w : State) (e : Change) → IsSound w → refusal w e ≡ None → (p : ℕ) → IsTrue (is_player w p)
    → IsTrue (is_player (after w e) p)

-- the actor of a Player change is a player afterwards
abbrev pub NewPlayersArePlayers : Type 0
NewPlayersArePlayers =
    (w : State) (name : List ℕ) → IsSound w
    → IsTrue (is_player (after w (record { actor = w.next; deed = Player name })) w.next)
