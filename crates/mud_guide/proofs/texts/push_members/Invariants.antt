use Rattle.std.proofs.Common.{◌≡◌, ◌++◌, take}
use Rattle.std.specs.Prelude.{string_bytes}
use Rattle.std.specs.List.{flat_map}
use Rattle.mud_guide.specs.inner.Members.{member_text}
use Rattle.mud_guide.proofs.texts.push_members.Given as goal

abbrev pub invariant-loop-leg : goal.invariant-loop-leg
invariant-loop-leg l =
    string_bytes l.text ≡ string_bytes l.fn.text ++ flat_map member_text (take l.leg-index l.legs)
