use Rattle.std.proofs.Common.{◌≡◌, ◌∷◌, map, drop}
use Rattle.std.specs.Cow.{cow_str_bytes}
use Rattle.std.specs.List.{find}
use Rattle.mud_words.specs.Prepositions.{begins}
use Rattle.mud_words.specs.inner.Spots.{row_shown}
use Rattle.mud_words.proofs.prepositions.first_said.Given as goal

abbrev pub invariant-loop-prep : goal.invariant-loop-prep
invariant-loop-prep l =
    find (λ p. begins (l.word ∷ map cow_str_bytes l.others) p.words) (map row_shown (drop l.prep-index l.phrases))
    ≡ find (λ p. begins (l.word ∷ map cow_str_bytes l.others) p.words) (map row_shown l.phrases)
