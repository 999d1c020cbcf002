-- Walks, least labels, routes and meetings, over any roads. Each exit of a walk counts `hop`: 1 if the number of exits
-- matters, 0 if only costs do.
use Rattle.std.specs.Prelude.{◌≡◌, ℕ, ◌+◌, ◌<◌, ◌≤◌, ◌⊎◌, List, [], ◌∷◌, sum_by, map, reverse, Contains, All, Any}
use Rattle.std.specs.Prelude.{Option, None, Some}
use Rattle.mud_roads.specs.declared.label.Label.{Label}
use Rattle.mud_roads.specs.declared.label.Step.{Step}

-- the steps that lead on from each room
abbrev pub Roads : Type 0
Roads = ℕ → List Step

-- each step is one of the room where the last one led; the empty walk leads only to its start
abbrev pub Walk : Roads → ℕ → List Step → ℕ → Type 0
Walk roads from [] to = from ≡ to
Walk roads from (s ∷ ss) to = Contains (roads from) s × Walk roads s.to ss to

abbrev pub exits_of : List Step → List ℕ
exits_of ss = map (λ s. s.exit) ss

-- the cost of a walk, and the number of its exits
abbrev pub total : ℕ → List Step → Label
total hop ss = record { cost = sum_by (λ s. s.cost) ss; exits = sum_by (λ s. hop) ss }

-- the label after one more step
abbrev pub after : ℕ → Label → Step → Label
after hop l s = record { cost = l.cost + s.cost; exits = l.exits + hop }

-- a smaller cost, or an equal cost and no more exits
abbrev pub AtMost : Label → Label → Type 0
AtMost a b = (a.cost ≤ b.cost) × (a.cost ≡ b.cost → a.exits ≤ b.exits)

-- some walk has this label, and no walk has a smaller one
pub record IsLeast (hop : ℕ) (roads : Roads) (from to : ℕ) (l : Label) : Type 0 where
  pub walked : (ss : List Step) × Walk roads from ss to × (total hop ss ≡ l)
  pub least : (ss : List Step) → Walk roads from ss to → AtMost l (total hop ss)

-- no walk leads there
abbrev pub NoWalk : Roads → ℕ → ℕ → Type 0
NoWalk roads from to = (ss : List Step) → Walk roads from ss to → ⊥

-- the least label, or None if there is no walk
abbrev pub Least : ℕ → Roads → ℕ → ℕ → Option Label → Type 0
Least hop roads from to None = NoWalk roads from to
Least hop roads from to (Some l) = IsLeast hop roads from to l

-- the step out of the room `by` is the last one of a least walk
pub record EndsLeast (hop : ℕ) (roads : Roads) (from to by : ℕ) (s : Step) : Type 0 where
  pub step : Contains (roads by) s
  pub leads : s.to ≡ to
  pub least : (l : Label) × IsLeast hop roads from by l × IsLeast hop roads from to (after hop l s)

-- the walk, read from its end, that goes back each time by the lowest exit that ends a least walk
abbrev pub RouteBack : ℕ → Roads → ℕ → ℕ → List Step → Type 0
RouteBack hop roads from to [] = from ≡ to
RouteBack hop roads from to (s ∷ ss) =
    (by : ℕ) × EndsLeast hop roads from to by s
    × ((by' : ℕ) (s' : Step) → EndsLeast hop roads from to by' s' → s.exit ≤ s'.exit)
    × RouteBack hop roads from by ss

-- the canonical route: the least walk that is built backwards from the target in this way
abbrev pub IsRoute : ℕ → Roads → ℕ → ℕ → List Step → Type 0
IsRoute hop roads from to ss = RouteBack hop roads from to (reverse ss)

-- a traveller: its roads, and its place
abbrev pub Goer : Type 0
Goer = Roads × ℕ

-- the traveller's least label of a room, or None if it has none
abbrev pub HasLeast : ℕ → Goer → ℕ → Option Label → Type 0
HasLeast hop p room l = Least hop p.0 p.1 room l

-- each of the party has a label of the room, and the greatest of their costs is this one
pub record Gathers {A : Type 0} (Has : A → ℕ → Option Label → Type 0) (party : List A) (room cost : ℕ) : Type 0 where
  pub all : All (λ p. (l : Label) × Has p room (Some l) × (l.cost ≤ cost)) party
  pub one : Any (λ p. (l : Label) × Has p room (Some l) × (l.cost ≡ cost)) party

-- among the rooms where each has a label, the one with the least greatest cost, then with the lowest number
pub record IsMeeting {A : Type 0} (Has : A → ℕ → Option Label → Type 0) (party : List A) (room cost : ℕ) : Type 0 where
  pub gathers : Gathers Has party room cost
  pub best : (r c : ℕ) → Gathers Has party r c → (cost < c) ⊎ ((cost ≡ c) × (room ≤ r))
