use Rattle.std.proofs.lemmas.List.{take_rest}
use Rattle.mud_cert.proofs.Lined.{cut-at, line-whole}
use Rattle.mud_cert.proofs.reading.first_line.Goals as goal

pub returns-in_default : goal.returns-in_default
returns-in_default c = record { found = tt; none = line-whole c.args.bytes.now c.in_default.ensures }

pub returns : goal.returns
returns c =
    let cut = cut-at c.args.bytes.now c.split_at.result.0.now c.split_at.result.1.now c.in-Some.at
    c.in-Some.ensures c.split_at.ensures.front c.split_at.ensures.back in
    record { found = rw take_rest cut; none = tt }
