-- Parties: 2 to 8 different players.
use Rattle.std.specs.Prelude.{◌≢◌, ℕ, ◌≤◌, Bool, true, not, ◌&&◌, nat_eq, nat_le, List, [], ◌∷◌, length}
use Rattle.std.specs.List.{AllPairs, list_any}
use Rattle.mud_world.specs.declared.limits.TheConstants.{MOST_PARTY}

-- there are 2 to 8, and no two are equal
pub record IsParty (party : List ℕ) : Type 0 where
  pub two : 2 ≤ length party
  pub eight : length party ≤ MOST_PARTY
  pub distinct : AllPairs (λ p q. p ≢ q) party

-- no element occurs twice
abbrev pub all_distinct : List ℕ → Bool
all_distinct [] = true
all_distinct (p ∷ ps) = not (list_any (λ q. nat_eq q p) ps) && all_distinct ps

-- `IsParty` as a test
abbrev pub is_party : List ℕ → Bool
is_party party = nat_le 2 (length party) && (nat_le (length party) MOST_PARTY && all_distinct party)
