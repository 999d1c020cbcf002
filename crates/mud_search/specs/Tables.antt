-- Tables with an entry for each member and room.
use Rattle.std.specs.Prelude.{refl, ℕ, Bool, List, [], slice_index_or, sum_by, count_by}
use Rattle.std.specs.Coded.{Coded, code_by, coded_list}

-- the model is a list for each member; clauses use it through the functions below
pub record Table (A : Type 0) : Type 0 where
  pub lists : List (List A)

abbrev pub table : {A : Type 0} → List (List A) → Table A
table lists = record { lists = lists }

-- the table encoded as its lists
abbrev pub table_code : {A : Type 0} → Coded A → Coded (Table A)
table_code {A} code = code_by (List (List A)) (coded_list (coded_list code)) (λ t. t.lists) table (λ _. refl)

-- the entry of a member and a room, with a default past the last
abbrev pub at : {A : Type 0} → A → Table A → ℕ → ℕ → A
at past t m room = slice_index_or (slice_index_or t.lists m []) room past

-- the number of entries that pass a test
abbrev pub how_many : {A : Type 0} → (A → Bool) → Table A → ℕ
how_many test t = sum_by (count_by test) t.lists
