-- The prepositions, and the one that counts among the words of a line.
use Rattle.std.specs.Prelude.{◌≡◌, ℕ, ◌+◌, ◌≤◌, ◌==◌, Bool, List, [], ◌∷◌, ◌++◌, length, take, drop, filter, map, codes}
use Rattle.std.specs.Prelude.{Option, None, Some}
use Rattle.std.specs.List.{slice_split, flat_map, starts_with, find, Contains}
use Rattle.std.specs.Str.{bytes_eq, str_to_ascii_lowercase as lower}
use Rattle.mud_words.specs.Words.{is_space}
use Rattle.mud_words.specs.declared.Prep.{Prep}
use Rattle.mud_words.specs.declared.Prep.TheVariants.{With, To, InFrontOf, In, OnTopOf, OutOf, Over, Through, Under}
use Rattle.mud_words.specs.declared.Prep.TheVariants.{Behind, Beside, For, Is, As, Off}

-- a phrase: the preposition and its words
pub record Phrase : Type 0 where
  pub prep : Prep
  pub words : List (List ℕ)

-- the phrases of a preposition
abbrev pub phrases_of : Prep → List (List ℕ)
phrases_of With = codes "with" ∷ codes "using" ∷ []
phrases_of To = codes "at" ∷ codes "to" ∷ []
phrases_of InFrontOf = codes "in front of" ∷ []
phrases_of In = codes "in" ∷ codes "inside" ∷ codes "into" ∷ []
phrases_of OnTopOf = codes "on top of" ∷ codes "on" ∷ codes "onto" ∷ codes "upon" ∷ []
phrases_of OutOf = codes "out of" ∷ codes "from inside" ∷ codes "from" ∷ []
phrases_of Over = codes "over" ∷ []
phrases_of Through = codes "through" ∷ []
phrases_of Under = codes "under" ∷ codes "underneath" ∷ codes "beneath" ∷ []
phrases_of Behind = codes "behind" ∷ []
phrases_of Beside = codes "beside" ∷ []
phrases_of For = codes "for" ∷ codes "about" ∷ []
phrases_of Is = codes "is" ∷ []
phrases_of As = codes "as" ∷ []
phrases_of Off = codes "off" ∷ codes "off of" ∷ []

-- the table of prepositions, a row for each phrase
abbrev pub table : List Phrase
table =
    flat_map (λ prep. map (λ phrase. record { prep = prep; words = slice_split is_space phrase }) (phrases_of prep))
    (With ∷ To ∷ InFrontOf ∷ In ∷ OnTopOf ∷ OutOf ∷ Over ∷ Through ∷ Under ∷ Behind ∷ Beside ∷ For ∷ Is ∷ As ∷ Off ∷ [])

-- a phrase, and its place among the words of a line
pub record Found : Type 0 where
  pub place : ℕ
  pub phrase : Phrase

-- a phrase of the table stands at that place, ignoring case
pub record Stands (args : List (List ℕ)) (f : Found) : Type 0 where
  pub listed : Contains table f.phrase
  pub here : map lower (take (length f.phrase.words) (drop f.place args)) ≡ map lower f.phrase.words

-- the preposition that counts: there is none at an earlier place, and none that is longer at this place
pub record Counts (args : List (List ℕ)) (f : Found) : Type 0 where
  pub stands : Stands args f
  pub earliest : (g : Found) → Stands args g → f.place ≤ g.place
  pub longest : (g : Found) → Stands args g → g.place ≡ f.place → length g.phrase.words ≤ length f.phrase.words

-- the words begin with those of a phrase, ignoring case
abbrev pub begins : List (List ℕ) → List (List ℕ) → Bool
begins words phrase = starts_with bytes_eq (map lower words) (map lower phrase)

-- the phrases of n words
abbrev pub of_length : ℕ → List Phrase
of_length n = filter (λ p. length p.words == n) table

-- the longest phrase that the words begin with; no phrase has more than three words
unfoldable pub phrase_at : List (List ℕ) → Option Phrase
phrase_at words = find (λ p. begins words p.words) (of_length 3 ++ of_length 2 ++ of_length 1)

-- a phrase at the first word, or else the result for the other words, one place later
abbrev pub or_later : Option Phrase → Option Found → Option Found
or_later (Some phrase) later = Some (record { place = 0; phrase = phrase })
or_later None None = None
or_later None (Some f) = Some (record f { place = f.place + 1 })

-- the preposition that counts. A reader need not look into this: by the law `laws::preposition` it is that of `Counts`
unfoldable pub preposition_of : List (List ℕ) → Option Found
preposition_of [] = None
preposition_of (w ∷ ws) = or_later (phrase_at (w ∷ ws)) (preposition_of ws)
