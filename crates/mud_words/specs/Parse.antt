-- The parse of a line.
use Rattle.std.specs.Prelude.{ℕ, ◌+◌, List, [], ◌∷◌, length, take, drop, Option, None}
use Rattle.std.specs.Option.{option_map, option_map_or}
use Rattle.std.specs.List.{join_with_byte}
use Rattle.mud_words.specs.declared.codes.TheConstants.{SPACE}
use Rattle.mud_words.specs.Words.{words, after_first_word, without_front, without_back, spelled_out}
use Rattle.mud_words.specs.Line.{Line}
use Rattle.std.specs.Str.{str_to_ascii_lowercase as lower}
use Rattle.mud_words.specs.Prepositions.{Found, preposition_of}

-- the words before a preposition are direct, and those after it indirect; without a preposition all are direct
abbrev pub round : List ℕ → List (List ℕ) → List ℕ → Option Found → Line
round verb args rest found = record {
  verb = verb;
  args = args;
  direct = join_with_byte SPACE (option_map_or (λ f. take f.place args) found args);
  prep = option_map (λ f. f.phrase.prep) found;
  indirect = join_with_byte SPACE (option_map_or (λ f. drop (f.place + length f.phrase.words) args) found []);
  rest = rest;
}

-- the parse of words: the first is the verb, and the others are split at the preposition that counts
abbrev pub line_of_words : List (List ℕ) → List ℕ → Line
line_of_words [] rest = round [] [] rest None
line_of_words (verb ∷ args) rest = round (lower verb) args rest (preposition_of args)

-- the parse of a line: the parse of its words, and the text after the first word, without the spaces at its ends
unfoldable pub parse_of : List ℕ → Line
parse_of line =
    line_of_words (words line) (without_back (without_front (after_first_word (spelled_out (without_front line)))))
