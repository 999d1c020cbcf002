-- The limits of a key.
use Rattle.std.specs.Prelude.{ℕ, Bool, ◌&&◌, nat_le, List}
use Rattle.mud_key.specs.declared.limits.TheConstants.{MOST_OBJECTS, MOST_NOTS}
use Rattle.mud_key.specs.Tree.{Tree, objects_of, nots_of}

-- the key has at most 16 objects and at most 64 `!`
abbrev pub is_within_limits : Tree (List ℕ) → Bool
is_within_limits key = nat_le (objects_of key) MOST_OBJECTS && nat_le (nots_of key) MOST_NOTS
