use Rattle.std.proofs.Common.{◌≡◌, map, drop, option_map}
use Rattle.std.specs.Cow.{cow_str_bytes}
use Rattle.mud_words.specs.Prepositions.{preposition_of}
use Rattle.mud_words.proofs.PrepositionLemmas.{moved}
use Rattle.mud_words.proofs.prepositions.preposition_of.Given as goal

abbrev pub invariant-loop-start : goal.invariant-loop-start
invariant-loop-start l =
    option_map (moved l.start) (preposition_of (map cow_str_bytes (drop l.start l.args)))
    ≡ preposition_of (map cow_str_bytes l.args)
