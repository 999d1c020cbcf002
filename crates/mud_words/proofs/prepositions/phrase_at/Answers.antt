use Rattle.std.proofs.Common.{ℕ, List, map, ap, ◌∙◌, option_map, arith}
use Rattle.std.specs.Cow.{cow_str_bytes}
use Rattle.std.specs.List.{find}
use Rattle.mud_words.specs.Prepositions.{begins}
use Rattle.mud_words.specs.inner.Spots.{row_shown, phrase_len}
use Rattle.mud_words.proofs.PrepositionLemmas.{word_and_others, nothing_begun, empty_begun, letter_begun}
use Rattle.mud_words.proofs.prepositions.phrase_at.Goals as goal

pub returns-in_default-clause-value : goal.returns-in_default-clause-value
returns-in_default-clause-value c =
    ap (option_map phrase_len) (nothing_begun cow_str_bytes c.args.words.now (omega arith))

pub returns-in_default-as_bytes-clause-value : goal.returns-in_default-as_bytes-clause-value
returns-in_default-as_bytes-clause-value c =
    ap (option_map phrase_len)
    (empty_begun cow_str_bytes c.args.words.now c.word-item.result c.as_bytes.result.now (omega arith) c.word-item.is
    (c.as_bytes.ensures.value ∙ c.as_str-word.ensures.value) (omega arith))

pub returns-clause-value : goal.returns-clause-value
returns-clause-value c =
    c.first_said.ensures.value
    ∙ ap (λ (ws : List (List ℕ)).
    option_map phrase_len (find (λ p. begins ws p.words) (map row_shown c.phrases_with.result.now)))
    (word_and_others cow_str_bytes c.args.words.now c.word-item.result c.as_str-word.result.now (omega arith)
    c.word-item.is c.as_str-word.ensures.value)
    ∙ ap (option_map phrase_len)
    (letter_begun cow_str_bytes c.args.words.now c.word-item.result c.as_bytes.result.now c.to_ascii_lowercase.result
    (map row_shown c.phrases_with.result.now)
    (omega arith) c.word-item.is (c.as_bytes.ensures.value ∙ c.as_str-word.ensures.value) (omega arith)
    c.to_ascii_lowercase.ensures.value
    c.phrases_with.ensures)
