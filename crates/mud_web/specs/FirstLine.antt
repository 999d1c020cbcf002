-- The first line of an HTTP request (RFC 9112, section 3) at the start of a Telnet connection.
use Rattle.std.specs.Prelude.{◌≡◌, ◌<◌, ℕ, List, ◌∷◌, ◌++◌, length, IsTrue, codes, Bool, ◌||◌, ◌==◌}
use Rattle.std.specs.List.{fold}
use Rattle.std.specs.Char.{is_ascii_alphabetic, is_ascii_digit, is_ascii_graphic}
use Rattle.httparse.specs.Grammar.{AllPass}
use Rattle.mud_web.specs.declared.first_line.FirstLine.{FirstLine}
use Rattle.mud_web.specs.declared.first_line.Verdict.{Verdict}
use Rattle.mud_web.specs.declared.first_line.Verdict.TheVariants.{Undecided, Request, NoRequest}
use Rattle.mud_web.specs.declared.first_line.Place.TheVariants.{Blank}
use Rattle.mud_web.specs.declared.first_line.TheConstants.{SPACE}
use Rattle.mud_web.specs.inner.Places.{next}

-- a line that begins with letters, a space, a target of visible characters, a space, `HTTP/` and a digit
pub record IsRequestLine (line : List ℕ) : Type 0 where
  pub word : List ℕ
  pub target : List ℕ
  pub digit : ℕ
  pub rest : List ℕ
  pub letters : (0 < length word) × AllPass is_ascii_alphabetic word
  pub visible : (0 < length target) × AllPass is_ascii_graphic target
  pub is_digit : IsTrue (is_ascii_digit digit)
  pub is : line ≡ word ++ SPACE ∷ (target ++ SPACE ∷ (codes "HTTP/" ++ digit ∷ rest))

-- CR or LF
abbrev pub is_line_end : ℕ → Bool
is_line_end b = (b == 13) || (b == 10)

-- the bytes begin with such a line, after any line ends
abbrev pub BeginsRequest : List ℕ → Type 0
BeginsRequest bytes =
    (blank line : List ℕ) × AllPass is_line_end blank × IsRequestLine line × (bytes ≡ blank ++ line)

-- the verdict on the bytes: they begin with a request's first line; they can never begin with one; or both are still
-- possible
abbrev pub Decides : Verdict → List ℕ → Type 0
Decides Request bytes = BeginsRequest bytes
Decides NoRequest bytes = (more : List ℕ) → ¬ (BeginsRequest (bytes ++ more))
Decides Undecided bytes = ¬ (BeginsRequest bytes) × ((more : List ℕ) × BeginsRequest (bytes ++ more))

-- the detector received exactly these bytes. A reader need not look into this: `new` gives the state after no bytes,
-- `feed` advances it, and the contracts state the verdict by the bytes alone
pub record StandsAfter (first : FirstLine) (bytes : List ℕ) : Type 0 where
  pub is : first.place ≡ fold next Blank bytes
