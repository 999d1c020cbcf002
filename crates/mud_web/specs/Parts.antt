-- The part of an answer that is sent (RFC 9110, section 9.3.2).
use Rattle.std.specs.Prelude.{◌≡◌, ◌⊎◌, ◌<◌, ◌+◌, ℕ, List, ◌++◌, length, take, drop, codes}
use Rattle.httparse.specs.Grammar.{AllPass}
use Rattle.mud_web.specs.declared.body.Body.{Body}
use Rattle.mud_web.specs.declared.body.Body.TheVariants.{Sent, LeftOut}
use Rattle.mud_web.specs.FirstLine.{is_line_end}

-- the bytes begin with the method HEAD, after any line ends
abbrev pub AsksForHead : List ℕ → Type 0
AsksForHead bytes = (blank rest : List ℕ) × AllPass is_line_end blank × (bytes ≡ blank ++ (codes "HEAD " ++ rest))

-- an empty line begins here: the end of a line, and another line end
abbrev pub EndsHead : List ℕ → Type 0
EndsHead bytes = (rest : List ℕ) × (bytes ≡ codes "\r\n\r\n" ++ rest)

-- either all of an answer is sent, or everything up to and including its first empty line
abbrev pub IsPart : Body → (answer part : List ℕ) → Type 0
IsPart Sent answer part = part ≡ answer
IsPart LeftOut answer part =
    ((at : ℕ) × EndsHead (drop at answer) × ((k : ℕ) → k < at → ¬ (EndsHead (drop k answer)))
    × (part ≡ take (at + 4) answer))
    ⊎ (((k : ℕ) → k < length answer → ¬ (EndsHead (drop k answer))) × (part ≡ answer))
