-- The invariant of every world.
use Rattle.std.specs.Prelude.{◌≡◌, ◌≢◌, ℕ, ◌+◌, ◌<◌, ◌≤◌, false, List, [], ◌∷◌, Some, None, IfSome, IsTrue}
use Rattle.std.proofs.Common.{suc}
use Rattle.mud_key.specs.Tree.{IsKey, AllObjects}
use Rattle.mud_world.specs.declared.limits.TheConstants.{NUMBERS, MOST_COST}
use Rattle.mud_world.specs.declared.record.Kind.{Kind}
use Rattle.mud_world.specs.declared.record.Kind.TheVariants.{Room, Exit, Thing, Player}
use Rattle.mud_world.specs.declared.record.Record.{Record}
use Rattle.mud_world.specs.State.{State, record_at, follow, is_room, is_exit, exists, all_nest, shares, is_player_kind}

-- the numbers are strictly increasing, from low to below high
abbrev pub IsRising : ℕ → List (ℕ × Record) → ℕ → Type 0
IsRising low [] high = low ≤ high
IsRising low (e ∷ es) high = (low ≤ e.0) × IsRising (e.0 + 1) es high

-- places and ends have the right kinds
abbrev pub IsPlacedWell : State → Kind → Type 0
IsPlacedWell w Room = Unit {0}
IsPlacedWell w (Exit p) = IsTrue (is_room w p.source) × IsTrue (is_room w p.destination) × (p.cost ≤ MOST_COST)
IsPlacedWell w (Thing place) = IsTrue (exists w place) × (is_exit w place ≡ false)
IsPlacedWell w (Player place) = IsTrue (is_room w place)

-- the facts that are true of every world, and that every legal change preserves
pub record IsSound (w : State) : Type 0 where
  pub rising : IsRising 0 w.objects w.next
  pub limit : w.next ≤ NUMBERS
  pub placed : (n : ℕ) (r : Record) → record_at w n ≡ Some r → IsPlacedWell w r.kind
  pub no_circle : (n k : ℕ) → follow w (suc k) n ≢ Some n
  pub keyless : (n : ℕ) (r : Record) → record_at w n ≡ Some r → (place : ℕ) → r.kind ≡ Player place → r.key ≡ None
  pub locked : (n : ℕ) (r : Record) → record_at w n ≡ Some r → IfSome r.key IsKey
  -- a key names only objects that were made, though some of them may be recycled
  pub made : (n : ℕ) (r : Record) → record_at w n ≡ Some r → IfSome r.key (AllObjects (λ o. o < w.next))
  pub nesting : IsTrue (all_nest w)
  pub named : (a b : ℕ) (r s : Record) → record_at w a ≡ Some r → record_at w b ≡ Some s → a ≢ b
      → IsTrue (is_player_kind r.kind) → IsTrue (is_player_kind s.kind) → shares r.names s.names ≡ false
  -- new players appear here
  pub hall : IsTrue (is_room w 0)
