use Rattle.std.proofs.Common.{◌≡◌, ◌++◌, take}
use Rattle.std.specs.Prelude.{string_bytes, codes}
use Rattle.std.specs.List.{flat_map}
use Rattle.mud_survey.specs.Json.{stranded_json}
use Rattle.mud_survey.proofs.json.push_other_stranded.Given as goal

-- those so far are written
abbrev pub invariant-loop-stranded : goal.invariant-loop-stranded
invariant-loop-stranded l =
    string_bytes l.out ≡ string_bytes l.fn.out ++ flat_map (λ s. codes "," ++ stranded_json s) (take l.stranded-index
    l.all)
