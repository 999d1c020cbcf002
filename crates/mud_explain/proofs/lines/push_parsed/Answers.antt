use Rattle.std.proofs.Common.{append_assoc}
use Rattle.mud_explain.proofs.lines.push_parsed.Goals as goal

pub returns : goal.returns
returns c =
    let bytes = rw c.phrase_of.ensures at c.write.ensures.bytes in simp append_assoc bytes
