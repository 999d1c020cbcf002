-- The objects that a key names.
use Rattle.std.proofs.Common.{◌≡◌, ℕ, Bool, not, Option, Some, None, ◌∙◌, ap}
use Rattle.std.specs.Prelude.{IfSome}
use Rattle.mud_key.specs.Tree.{Tree, Has, Asks, Not, Join, AllObjects}
use Rattle.mud_world.specs.Truth.{truth_of_join, key_true}

-- what holds of each object of a key, and implies more, implies it of each
pub all-implied : (P Q : ℕ → Type 0) → ((n : ℕ) → P n → Q n) → (key : Tree ℕ) → AllObjects P key → AllObjects Q key
all-implied P Q more (Has n) all = more n all
all-implied P Q more (Asks n) all = more n all
all-implied P Q more (Not k) all = all-implied P Q more k all
all-implied P Q more (Join op a b) all = (all-implied P Q more a all.0, all-implied P Q more b all.1)

pub some-implied : (P Q : ℕ → Type 0) → ((n : ℕ) → P n → Q n) → (key : Option (Tree ℕ)) → IfSome key (AllObjects P)
    → IfSome key (AllObjects Q)
some-implied P Q more None all = tt
some-implied P Q more (Some k) all = all-implied P Q more k all

-- the truth of a key depends only on the objects that it names
pub truth-alike : (held held' asked asked' : ℕ → Bool) (P : ℕ → Type 0) → ((n : ℕ) → P n → held n ≡ held' n)
    → ((n : ℕ) → P n → asked n ≡ asked' n) → (key : Tree ℕ) → AllObjects P key
    → key_true held asked key ≡ key_true held' asked' key
truth-alike held held' asked asked' P same like (Has n) all = same n all
truth-alike held held' asked asked' P same like (Asks n) all = like n all
truth-alike held held' asked asked' P same like (Not k) all =
    ap not (truth-alike held held' asked asked' P same like k all)
truth-alike held held' asked asked' P same like (Join op a b) all =
    ap (λ v. truth_of_join op v (key_true held asked b)) (truth-alike held held' asked asked' P same like a all.0)
    ∙ ap (truth_of_join op (key_true held' asked' a)) (truth-alike held held' asked asked' P same like b all.1)
