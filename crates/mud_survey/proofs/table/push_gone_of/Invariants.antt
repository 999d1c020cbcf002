use Rattle.std.proofs.Common.{◌≡◌, ◌++◌, take}
use Rattle.std.specs.Prelude.{string_bytes, codes, not, filter}
use Rattle.std.specs.List.{flat_map}
use Rattle.mud_key.specs.Printed.{number_text}
use Rattle.mud_world.specs.State.{exists}
use Rattle.mud_survey.proofs.table.push_gone_of.Given as goal

-- those so far are written
abbrev pub invariant-loop-object : goal.invariant-loop-object
invariant-loop-object l =
    string_bytes l.out ≡ string_bytes l.fn.out
    ++ flat_map (λ a. codes " " ++ number_text a) (filter (λ a. not (exists l.world a)) (take l.object-index l.objects))
