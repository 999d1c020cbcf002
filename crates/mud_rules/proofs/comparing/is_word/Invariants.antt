use Rattle.std.proofs.Common.{◌≡◌, drop}
use Rattle.std.specs.Str.{str_eq_ignore_ascii_case}
use Rattle.mud_rules.proofs.comparing.is_word.Given as goal

-- the rest of the texts decides whether they are equal
abbrev pub invariant-loop-at : goal.invariant-loop-at
invariant-loop-at l =
    str_eq_ignore_ascii_case (drop l.at l.text) (drop l.at l.word) ≡ str_eq_ignore_ascii_case l.text l.word
