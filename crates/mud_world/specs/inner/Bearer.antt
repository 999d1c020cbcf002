-- The bearer of a key, and the answers to its questions.
use Rattle.std.specs.Prelude.{ℕ, Bool, false, nat_eq, slice_index_or}
use Rattle.std.specs.List.{list_any}
use Rattle.mud_world.specs.declared.locks.Bearer.{Bearer}
use Rattle.mud_world.specs.declared.locks.Bearer.TheVariants.{Number, Holder, Marks}
use Rattle.mud_world.specs.declared.locks.Asked.{Asked}
use Rattle.mud_world.specs.declared.locks.Asked.TheVariants.{Levels, Answers}
use Rattle.mud_world.specs.State.{State, within, unlocked_in}

-- object a is true for the bearer
abbrev pub has_for : State → Bearer → ℕ → Bool
has_for w (Number c) a = within w a c
has_for w (Holder held) a = list_any (nat_eq a) held.now
has_for w (Marks t) a = slice_index_or t.now a false

-- ?o is true, with these objects held: by the keys, or by the stored answers
abbrev pub asked_for : State → (ℕ → Bool) → Asked → ℕ → Bool
asked_for w held (Levels n) o = unlocked_in w n held o
asked_for w held (Answers t) o = slice_index_or t.now o false
