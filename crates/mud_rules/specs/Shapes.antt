-- The shapes of lines: the words, texts and objects that a line gives to its command, or the refusal of a wrong shape.
use Rattle.std.specs.Prelude.{ℕ, Bool, true, false, not, ◌&&◌, List, [], ◌∷◌, get_or, codes, Option, Some, Result}
use Rattle.std.specs.Prelude.{Ok, Err, if◌then◌else◌}
use Rattle.std.specs.List.{join_with_byte}
use Rattle.std.specs.Str.{str_eq_ignore_ascii_case}
use Rattle.mud_words.specs.declared.codes.TheConstants.{SPACE}
use Rattle.mud_words.specs.declared.Prep.{Prep}
use Rattle.mud_words.specs.declared.Prep.TheVariants.{With, To, In, Is}
use Rattle.mud_words.specs.Line.{Line}
use Rattle.mud_world.specs.declared.refusal.Refusal.{Refusal}
use Rattle.mud_world.specs.declared.refusal.Refusal.TheVariants.{NotUnderstood, NoSuch}
use Rattle.mud_world.specs.State.{State}
use Rattle.mud_rules.specs.Matches.{is_empty, local_match}
use Rattle.mud_rules.specs.Outcome.{object_meant, both}

-- ---- words

-- the words after the verb
abbrev pub all_of : Line → List ℕ
all_of l = join_with_byte SPACE l.args

-- the word after the verb, or the empty text; further words are ignored
abbrev pub first_of : Line → List ℕ
first_of l = get_or l.args 0 []

-- the words without a leading `at` that has more after it
abbrev pub looked_at : List (List ℕ) → List (List ℕ)
looked_at (word ∷ next ∷ words) =
    if str_eq_ignore_ascii_case word (codes "at") then next ∷ words else word ∷ next ∷ words
looked_at words = words

-- ---- texts around a preposition

abbrev pub is_prep : Prep → Option Prep → Bool
is_prep With (Some With) = true
is_prep To (Some To) = true
is_prep In (Some In) = true
is_prep Is (Some Is) = true
is_prep p q = false

-- non-empty texts before and after this preposition
abbrev pub is_pair : Prep → Line → Bool
is_pair prep l = is_prep prep l.prep && (not (is_empty l.direct) && not (is_empty l.indirect))

-- a non-empty text after this preposition, and none before it
abbrev pub is_aimed : Prep → Line → Bool
is_aimed prep l = is_prep prep l.prep && (is_empty l.direct && not (is_empty l.indirect))

-- ---- the arguments of a line

-- the text after the verb
abbrev pub text_behind : Line → Result (List ℕ) Refusal
text_behind l = if is_empty (all_of l) then Err NotUnderstood else Ok (all_of l)

-- the object that a text means to player p
abbrev pub object_named : State → ℕ → List ℕ → Result ℕ Refusal
object_named w p text = if is_empty text then Err NotUnderstood else object_meant NoSuch (local_match w p text)

-- the object before this preposition, if there are texts on both sides of it
abbrev pub object_before : Prep → State → ℕ → Line → Result ℕ Refusal
object_before prep w p l = if is_pair prep l then object_meant NoSuch (local_match w p l.direct) else Err NotUnderstood

-- the objects before and after this preposition
abbrev pub objects_round : Prep → State → ℕ → Line → Result (ℕ × ℕ) Refusal
objects_round prep w p l =
    if is_pair prep l
    then both (object_meant NoSuch (local_match w p l.direct)) (object_meant NoSuch (local_match w p l.indirect))
    else Err NotUnderstood
