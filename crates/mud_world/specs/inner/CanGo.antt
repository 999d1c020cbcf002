-- The premises for moving an object, giving it a key, adding it or removing it. A legal change satisfies them.
use Rattle.std.specs.Prelude.{◌≡◌, ◌≢◌, ℕ, List, false, ◌<◌, [], ◌∷◌, Option, Some, None, IfSome, IsTrue}
use Rattle.mud_key.specs.Tree.{Tree, IsKey, AllObjects}
use Rattle.mud_world.specs.declared.limits.TheConstants.{NUMBERS}
use Rattle.mud_world.specs.declared.record.Record.{Record}
use Rattle.mud_world.specs.declared.record.Kind.{Kind}
use Rattle.mud_world.specs.declared.record.Kind.TheVariants.{Room, Exit, Thing, Player}
use Rattle.mud_world.specs.Kinds.{kind_at, kind_place, is_player_kind}
use Rattle.mud_world.specs.State.{State, record_at, place_of, follow, exists, is_room, is_player, all_nest, is_taken}
use Rattle.mud_world.specs.Sound.{IsPlacedWell, IsSound}
use Rattle.mud_world.specs.Legal.{with_new}
use Rattle.mud_world.specs.inner.Fields.{with_key}

-- object t can move from place q to another place y: y is valid for it, and is not inside t
pub record CanGo (w : State) (t q y : ℕ) : Type 0 where
  pub from : place_of w t ≡ Some q
  pub apart : q ≢ y
  pub fit : (r : Record) → record_at w t ≡ Some r → IsPlacedWell w (kind_at y r.kind)
  pub off : (k : ℕ) → follow w k y ≢ Some t

-- a new object has no key, its place exists before it, and it is well placed
pub record IsNew (w w' : State) (r : Record) : Type 0 where
  pub keyless : r.key ≡ None
  pub place : (p : ℕ) → kind_place r.kind ≡ Some p → IsTrue (exists w p)
  pub well : IsPlacedWell w' r.kind

-- the record can be added under the next number
pub record CanAdd (w : State) (r : Record) : Type 0 where
  pub room : w.next < NUMBERS
  pub free : IsTrue (is_player_kind r.kind) → is_taken w w.next r.names ≡ false
  pub new : IsNew w (with_new w (r ∷ [])) r

-- an exit can join these rooms
pub record CanJoin (w : State) (a b : ℕ) : Type 0 where
  pub from : IsTrue (is_room w a)
  pub to : IsTrue (is_room w b)

-- object n can have this key, or none
pub record CanKey (w : State) (n : ℕ) (key : Option (Tree ℕ)) : Type 0 where
  pub there : IsTrue (exists w n)
  pub no_player : is_player w n ≡ false
  pub limits : IfSome key IsKey
  pub made : IfSome key (AllObjects (λ o. o < w.next))
  pub nesting : IsTrue (all_nest (with_key w n key))

-- object n can have these names
pub record CanName (w : State) (n : ℕ) (names : List (List ℕ)) : Type 0 where
  pub there : IsTrue (exists w n)
  pub free : IsTrue (is_player w n) → is_taken w n names ≡ false

-- an object of this kind neither lies in n nor has n as an end
abbrev pub IsOff : ℕ → Kind → Type 0
IsOff n Room = Unit {0}
IsOff n (Exit p) = (p.source ≢ n) × (p.destination ≢ n)
IsOff n (Thing place) = place ≢ n
IsOff n (Player place) = place ≢ n

-- object n exists, is neither a player nor the hall, contains nothing, and is not an end of an exit
pub record CanRemove (w : State) (n : ℕ) : Type 0 where
  pub there : IsTrue (exists w n)
  pub no_player : is_player w n ≡ false
  pub other : n ≢ 0
  pub unused : (m : ℕ) (r : Record) → record_at w m ≡ Some r → IsOff n r.kind

-- the world is a sound one to which an object that is not a player was added
pub record IsGrown (w : State) : Type 0 where
  pub before : State
  pub object : Record
  pub sound : IsSound before
  pub no_player : is_player_kind object.kind ≡ false
  pub is : w ≡ with_new before (object ∷ [])
