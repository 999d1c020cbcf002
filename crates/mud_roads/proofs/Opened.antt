-- The knowledge of a traveller about each number.
use Rattle.std.proofs.Common.{◌≡◌, ℕ, ◌<◌, ◌≤◌, ◌⊎◌, inl, inr, [], map, get_or, sym, ◌∙◌, arith}
use Rattle.std.specs.List.{range_with_len}
use Rattle.std.proofs.lemmas.Bool.{cases_lt}
use Rattle.std.proofs.lemmas.List.{get_or_past}
use Rattle.std.proofs.lemmas.List.FromFn.{get_or-map-range_with_len, length-map-range_with_len}
use Rattle.mud_world.specs.State.{State}
use Rattle.mud_world.specs.Sound.{IsSound}
use Rattle.mud_roads.specs.Passable.{roads_of}
use Rattle.mud_roads.proofs.Roads.{no-roads-past}

-- the list of a player's roads, up to the next number, covers every number
pub roads-all : (w : State) → IsSound w → (p room : ℕ)
    → get_or (map (roads_of w p) (range_with_len 0 w.next)) room [] ≡ roads_of w p room
roads-all w sound p room = go (cases_lt room w.next)
  where
    go : (room < w.next) ⊎ (w.next ≤ room)
        → get_or (map (roads_of w p) (range_with_len 0 w.next)) room [] ≡ roads_of w p room
    go (inl inside) = get_or-map-range_with_len (roads_of w p) 0 w.next room room [] inside (omega arith)
    go (inr past) =
        get_or_past (map (roads_of w p) (range_with_len 0 w.next)) room []
        (let size = length-map-range_with_len (roads_of w p) 0 w.next in omega (arith, size))
        ∙ sym (no-roads-past w sound p room past)
