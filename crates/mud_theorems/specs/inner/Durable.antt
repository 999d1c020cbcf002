-- Passes of a cell that say how many entries are durable.
use Rattle.std.specs.Prelude.{◌≡◌, ◌≤◌, ℕ, List, [], true, false, slice_index}
use mathlib.Core.Option.{some}
use lib.ListN.{get_elem?}
use Rattle.atomic_table.specs.Seated.{TableId}
use Rattle.mud_theorems.specs.declared.durable.Knowledge.{Knowledge}

-- a name that no cell has
abbrev pub no_table : TableId
no_table = record { words = 0; slots = 0; views_name = 0; atom = 0; block = 0; offset = 0; slot_names = [] }

-- the one pass that knows how many entries are durable
abbrev pub knower : ℕ → Knowledge
knower count = record { keeps = true; count = count; claims = 0 }

-- a pass that claims that this many are
abbrev pub claimer : ℕ → Knowledge
claimer count = record { keeps = false; count = 0; claims = count }

-- the claim of what the knower knows, for another pass
abbrev pub claim_of : Knowledge → Knowledge
claim_of v = claimer v.count

-- a pass with the claim of another one, to compare it
abbrev pub with_claim : Knowledge → Knowledge → Knowledge
with_claim v w = record { keeps = v.keeps; count = v.count; claims = w.claims }

-- one pass at most keeps the count, and no pass claims more
abbrev pub AreTrue : List ℕ → List Knowledge → Type 0
AreTrue words views =
    (seat : ℕ) × (count : ℕ)
    × ((by : ℕ) (v : Knowledge) → get_elem? views by ≡ some v
    → (v.keeps ≡ true → (by ≡ seat) × (v.count ≡ count)) × (v.claims ≤ count))

-- the knower's count becomes the number that it writes
abbrev pub Raised : Knowledge → List ℕ → List ℕ → Knowledge → Type 0
Raised v before after w = w ≡ record { keeps = v.keeps; count = slice_index after 0; claims = v.claims }

-- the knower compares a claim with its count, and forgets the claim
abbrev pub Compared : Knowledge → List ℕ → List ℕ → Knowledge → Type 0
Compared v before after w = (w ≡ record { keeps = v.keeps; count = v.count; claims = 0 }) × (v.claims ≤ v.count)
