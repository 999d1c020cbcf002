use Rattle.std.proofs.Common.{◌≡◌, ◌++◌, map, codes, string_bytes, take}
use Rattle.std.specs.List.{flat_map}
use Rattle.mud_explain.proofs.told.push_lines.Given as goal

abbrev pub invariant-loop-line : goal.invariant-loop-line
invariant-loop-line l =
    string_bytes l.out ≡ string_bytes l.fn.out
    ++ flat_map (λ t. t ++ codes "\n") (map string_bytes (take l.line-index l.lines))
