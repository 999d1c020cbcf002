-- The tables of a traveller in memory.
use Rattle.std.specs.Prelude.{◌≡◌, ℕ, ◌-◌, ◌≤◌, Bool, false, List, [], ◌∷◌, length, take, drop, slice_index_or}
use Rattle.std.specs.Prelude.{if◌then◌else◌, not, nat_eq, nat_lt}
use Rattle.mud_world.specs.State.{State, unlocked}
use Rattle.mud_roads.specs.declared.label.Step.{Step}

-- the rows that end at these indices, the first beginning at `from`; `steps` are those from there on
abbrev pub rows : ℕ → List ℕ → List Step → List (List Step)
rows from [] steps = []
rows from (end ∷ ends) steps = take (end - from) steps ∷ rows end ends (drop (end - from) steps)

-- each row ends at or after its beginning, and the last one ends with the steps
abbrev pub Fit : ℕ → List ℕ → List Step → Type 0
Fit from [] steps = steps ≡ []
Fit from (end ∷ ends) steps = (from ≤ end) × (end - from ≤ length steps) × Fit end ends (drop (end - from) steps)

-- the step with this cost, if it is one of exit x
abbrev pub costing : ℕ → ℕ → Step → Step
costing x cost s = if nat_eq x s.exit then record s { cost = cost } else s

-- the step is not one of exit x
abbrev pub is_apart : ℕ → Step → Bool
is_apart x s = not (nat_eq x s.exit)

-- where a row ends once the step at index i is removed, if it ended at `end`
abbrev pub end_without : ℕ → ℕ → ℕ
end_without i end = if nat_lt i end then end - 1 else end

-- the list says for each number whether the object is unlocked for p
abbrev pub Knows : State → ℕ → List Bool → Type 0
Knows w p marks = (n : ℕ) → slice_index_or marks n false ≡ unlocked w p n
