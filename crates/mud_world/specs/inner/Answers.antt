-- The results of a level, computed from those of level zero.
use Rattle.std.specs.Prelude.{◌≡◌, ◌≢◌, ℕ, ◌-◌, ◌<◌, ◌≤◌, Bool, true, false, List, [], ◌∷◌, ◌++◌, length, map, is_none}
use Rattle.std.specs.Prelude.{nat_eq, slice_index_or, slice_set, Option, Some, None}
use Rattle.std.specs.List.{list_any, range_with_len}
use Rattle.mud_world.specs.declared.change.Deed.{Deed}
use Rattle.mud_world.specs.declared.change.Deed.TheVariants.{Lock, Unlock, Recycle}
use Rattle.mud_world.specs.State.{State, has, key_of}

-- the results are those of level zero, and each object with a key is among the locked ones
pub record IsPlain (w : State) (answers : List Bool) (locked : List ℕ) : Type 0 where
  pub long : length answers ≡ w.next
  pub plain : (o : ℕ) → slice_index_or answers o false ≡ has w o (λ r. is_none r.key)
  pub keyless : (o : ℕ) → list_any (nat_eq o) locked ≡ false → is_none (key_of w o) ≡ true

-- the results after those of these objects are rewritten
abbrev pub answers_with : (ℕ → Bool) → List ℕ → List Bool → List Bool
answers_with new [] answers = answers
answers_with new (o ∷ os) answers = answers_with new os (slice_set answers o (new o))

-- after a look at this object, if there is one: its entry is that of the world, and the others are as they were
pub record IsLooked (now : State) (object : Option ℕ) (x y : List Bool × List ℕ) : Type 0 where
  pub long : length y.0 ≡ length x.0
  pub kept : (o : ℕ) → object ≢ Some o → slice_index_or y.0 o false ≡ slice_index_or x.0 o false
  pub new : (o : ℕ) → object ≡ Some o → o < length x.0
      → slice_index_or y.0 o false ≡ has now o (λ r. is_none r.key)
  pub listed : (o : ℕ) → list_any (nat_eq o) y.1 ≡ false
      → (list_any (nat_eq o) x.1 ≡ false) × (object ≡ Some o → has now o (λ r. is_none r.key) ≡ true)

-- after a look at the objects that the world has beyond the known ones
pub record IsEnlarged (now : State) (x y : List Bool × List ℕ) : Type 0 where
  pub keyless : y.0
      ≡ x.0 ++ map (λ n. has now n (λ r. is_none r.key)) (range_with_len (length x.0) (now.next - length x.0))
  pub listed : (o : ℕ) → list_any (nat_eq o) y.1 ≡ false
      → (list_any (nat_eq o) x.1 ≡ false)
      × (length x.0 ≤ o → o < now.next → has now o (λ r. is_none r.key) ≡ true)

-- the object that gets a key, loses its key, or is gone after the deed
abbrev pub rekeyed_by : Deed → Option ℕ
rekeyed_by (Lock object key) = Some object
rekeyed_by (Unlock object) = Some object
rekeyed_by (Recycle object) = Some object
rekeyed_by deed = None
