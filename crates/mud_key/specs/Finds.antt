-- The results of the readers as functions of the text, for definitions that compute with them. By the laws of this
-- crate these are exactly the results of the relations.
use Rattle.std.specs.Prelude.{◌≡◌, ℕ, List, Option, Some, None, Result, Ok, Err}
use Rattle.std.specs.Prelude.{if◌then◌else◌}
use Rattle.std.specs.Option.{option_and_then}
use Rattle.mud_key.specs.declared.names.NamesFault.{NamesFault}
use Rattle.mud_key.specs.declared.names.NamesFault.TheVariants.{OutOfMemory as NoMemory, BadName}
use Rattle.mud_key.specs.declared.key_fault.KeyFault.{KeyFault}
use Rattle.mud_key.specs.declared.key_fault.KeyFault.TheVariants.{OutOfMemory, BadKey, TooManyAtoms}
use Rattle.mud_key.specs.Tree.{Tree}
use Rattle.mud_key.specs.inner.NamesTexts.{is_only}
use Rattle.mud_key.specs.inner.NameReader.{name_run, name_start, names_at_end}
use Rattle.mud_key.specs.inner.Machine as machine
use Rattle.mud_key.specs.inner.Builder.{outer_settled}
use Rattle.mud_key.specs.inner.Limits.{is_within_limits}

-- the names of a names text. A reader need not look into this: the law `laws::names` characterizes it
unfoldable pub names_in : List ℕ → Option (List (List ℕ))
names_in text = option_and_then names_at_end (name_run (Some name_start) text)

-- the name that a text is, if it is one. A reader need not look into this: the law `laws::name` characterizes it
unfoldable pub name_in : List ℕ → Option (List ℕ)
name_in text = option_and_then (λ names. if is_only text names then Some text else None) (names_in text)

-- the key of a key text within the limits. A reader need not look into this: the law `laws::key` characterizes it
unfoldable pub key_in : List ℕ → Option (Tree (List ℕ))
key_in text =
    option_and_then (λ key. if is_within_limits key then Some key else None)
    (option_and_then (λ s. outer_settled s.0 s.1) (machine.run machine.start text))

-- unless memory ran out, the result is the value found, or a fault if there is none
abbrev pub Finds : {A : Type 0} → Option A → Result A NamesFault → Type 0
Finds found (Ok it) = found ≡ Some it
Finds found (Err NoMemory) = Unit {0}
Finds found (Err BadName) = found ≡ None

-- unless memory ran out, the result is the key found, or a fault if there is none
abbrev pub FindsKey : List ℕ → Result (Tree (List ℕ)) KeyFault → Type 0
FindsKey text (Ok key) = key_in text ≡ Some key
FindsKey text (Err OutOfMemory) = Unit {0}
FindsKey text (Err (BadKey at)) = key_in text ≡ None
FindsKey text (Err TooManyAtoms) = key_in text ≡ None
FindsKey text (Err other) = ⊥
