-- A parsed line.
use Rattle.std.specs.Prelude.{ℕ, List, map, Option}
use Rattle.std.specs.Cow.{cow_str_bytes}
use Rattle.mud_words.specs.declared.Prep.{Prep}
use Rattle.mud_words.specs.declared.Parsed.{Parsed}

-- a parsed line; its texts are lists of bytes
pub record Line : Type 0 where
  pub verb : List ℕ
  pub args : List (List ℕ)
  pub direct : List ℕ
  pub prep : Option Prep
  pub indirect : List ℕ
  pub rest : List ℕ

-- the model of a `Parsed`
abbrev pub line_of : Parsed → Line
line_of p = record {
  verb = cow_str_bytes p.verb;
  args = map cow_str_bytes p.args.items;
  direct = cow_str_bytes p.direct;
  prep = p.prep;
  indirect = cow_str_bytes p.indirect;
  rest = p.rest.now;
}
