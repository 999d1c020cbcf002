use Rattle.std.proofs.Common.{◌≡◌, map, drop}
use Rattle.std.specs.List.{list_any}
use Rattle.std.specs.Str.{str_eq_ignore_ascii_case}
use Rattle.mud_rules.proofs.verb.is_any.Given as goal

-- the rest of the words gives the result of all of them
abbrev pub invariant-loop-word : goal.invariant-loop-word
invariant-loop-word l =
    list_any (str_eq_ignore_ascii_case l.text) (map (λ t. t.now) (drop l.word-index l.words))
    ≡ list_any (str_eq_ignore_ascii_case l.text) (map (λ t. t.now) l.words)
