use Rattle.std.proofs.Common.{rules}
use Rattle.std.proofs.lemmas.Str.{IsCharBoundary-after_ascii}
use Rattle.mud_words.proofs.spaces.shorthand.Goals as goal

pub range_from-requires : goal.range_from-requires
range_from-requires c = λ _. IsCharBoundary-after_ascii _ 0 c.utf8.line (search rules) (search rules)

pub range_from-requires-in-58 : goal.range_from-requires-in-58
range_from-requires-in-58 c = λ _. IsCharBoundary-after_ascii _ 0 c.utf8.line (search rules) (search rules)

pub range_from-requires-in-59 : goal.range_from-requires-in-59
range_from-requires-in-59 c = λ _. IsCharBoundary-after_ascii _ 0 c.utf8.line (search rules) (search rules)
