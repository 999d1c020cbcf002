use Rattle.std.proofs.Common.{◌≡◌, ◌++◌, take}
use Rattle.std.specs.Prelude.{string_bytes}
use Rattle.std.specs.List.{flat_map}
use Rattle.mud_survey.specs.Table.{stranded_text}
use Rattle.mud_survey.proofs.table.push_all_stranded.Given as goal

-- those so far are written
abbrev pub invariant-loop-stranded : goal.invariant-loop-stranded
invariant-loop-stranded l =
    string_bytes l.out ≡ string_bytes l.fn.out ++ flat_map (stranded_text l.world) (take l.stranded-index l.all)
