use Rattle.std.proofs.Common.{◌≡◌, drop}
use Rattle.std.specs.Prelude.{map, string_bytes}
use Rattle.std.specs.List.{list_any}
use Rattle.mud_rules.specs.inner.Matches.{fits}
use Rattle.mud_rules.proofs.matching.any_fits.Given as goal

-- the rest of the names gives the result of all of them
abbrev pub invariant-loop-name : goal.invariant-loop-name
invariant-loop-name l =
    list_any (λ name. fits l.likeness l.text (string_bytes name)) (drop l.name-index l.names)
    ≡ list_any (fits l.likeness l.text) (map string_bytes l.names)
