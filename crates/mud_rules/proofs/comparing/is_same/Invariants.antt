use Rattle.std.proofs.Common.{◌≡◌, drop}
use Rattle.std.specs.Prelude.{◌&&◌}
use Rattle.std.specs.Str.{str_eq_ignore_ascii_case}
use Rattle.mud_rules.proofs.comparing.is_same.Given as goal

-- the texts are equal if they were so far and the rest is
abbrev pub invariant-loop-at : goal.invariant-loop-at
invariant-loop-at l =
    str_eq_ignore_ascii_case l.text l.name
    ≡ (l.same && str_eq_ignore_ascii_case (drop l.at l.text) (drop l.at l.name))
