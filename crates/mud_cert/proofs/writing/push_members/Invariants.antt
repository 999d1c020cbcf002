use Rattle.std.proofs.Common.{◌≡◌, ◌++◌, take, string_bytes}
use Rattle.std.specs.List.{flat_map}
use Rattle.mud_cert.specs.Text.{text_of, member_lines}
use Rattle.mud_cert.proofs.writing.push_members.Given as goal

abbrev pub invariant-loop-member : goal.invariant-loop-member
invariant-loop-member l = string_bytes l.out ≡ string_bytes l.initial.out
    ++ text_of (flat_map (member_lines l.form) (take l.member-index l.members))
