use Rattle.std.proofs.Common.{◌≡◌, drop}
use Rattle.std.specs.Prelude.{map}
use Rattle.std.specs.Map.{lookup}
use Rattle.std.specs.Str.{str_eq_ignore_ascii_case}
use Rattle.mud_rules.specs.inner.Verbs.{row_of}
use Rattle.mud_rules.proofs.verb.verb_in.Given as goal

-- the rest of the rows gives the result of all of them
abbrev pub invariant-loop-word : goal.invariant-loop-word
invariant-loop-word l =
    lookup (str_eq_ignore_ascii_case l.text) (map row_of (drop l.word-index l.rows))
    ≡ lookup (str_eq_ignore_ascii_case l.text) (map row_of l.rows)
