use Rattle.std.proofs.Common.{◌≡◌, ◌++◌, map, codes, string_bytes, take}
use Rattle.std.specs.List.{flat_map}
use Rattle.mud_explain.specs.Brackets.{in_brackets}
use Rattle.mud_explain.proofs.listed.push_others.Given as goal

abbrev pub invariant-loop-text : goal.invariant-loop-text
invariant-loop-text g l =
    string_bytes l.out ≡ string_bytes l.fn.out
    ++ flat_map (λ t. codes " " ++ in_brackets t) (map g.T.AsStr.text (take l.text-index l.texts))
