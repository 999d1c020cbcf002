-- Sorted lists of numbers, and the operations that keep them sorted.
use Rattle.std.specs.Prelude.{ℕ, not, nat_eq, nat_lt, List, [], ◌∷◌, filter, if◌then◌else◌}
use Rattle.std.specs.List.{list_any}

-- the list with n inserted before the first number above it
abbrev pub insert : ℕ → List ℕ → List ℕ
insert n [] = n ∷ []
insert n (x ∷ xs) = if nat_lt n x then n ∷ x ∷ xs else x ∷ insert n xs

-- the list without n
abbrev pub without : ℕ → List ℕ → List ℕ
without n xs = filter (λ x. not (nat_eq x n)) xs

-- the list with n inserted unless it is there
abbrev pub put : ℕ → List ℕ → List ℕ
put n xs = if list_any (nat_eq n) xs then xs else insert n xs
