-- The models of lists and owners.
use Rattle.std.specs.Prelude.{◌≡◌, ℕ, List, [], None, Vec, map}
use Rattle.std.specs.declared.alloc.Global.{Global}
use Rattle.mud_index.specs.Lists.{list_at}
use Rattle.mud_index.specs.Owners.{owner_of}

-- each number has the empty list
abbrev pub AreEmpty : List (ℕ × List ℕ) → Type 0
AreEmpty lists = (n : ℕ) → list_at lists n ≡ []

-- no text has an owner
abbrev pub HaveNone : List (List ℕ × ℕ) → Type 0
HaveNone owners = (t : List ℕ) → owner_of owners t ≡ None

-- each text has the same owner in both
abbrev pub HaveSameOwners : List (List ℕ × ℕ) → List (List ℕ × ℕ) → Type 0
HaveSameOwners old new = (t : List ℕ) → owner_of new t ≡ owner_of old t

-- each text with its owner
abbrev pub seen_of : List (Vec ℕ Global × ℕ) → List (List ℕ × ℕ)
seen_of entries = map (λ e. (e.0.items, e.1)) entries
