use Rattle.std.proofs.Common.{sym, ◌∙◌, append_assoc}
use Rattle.std.proofs.lemmas.List.{take_rest}
use Rattle.mud_chron.specs.Text.{line_feed}
use Rattle.mud_chron.proofs.Lined.{cut-at, line-whole}
use Rattle.mud_chron.proofs.reading.cut_line.Goals as goal

pub returns-in_default : goal.returns-in_default
returns-in_default c = line-whole c.args.bytes.now c.in_default.ensures

pub returns : goal.returns
returns c =
    let cut = cut-at c.args.bytes.now c.split_at.result.0.now c.split_at.result.1.now c.in-Some.at
    c.in-Some.ensures c.split_at.ensures.front c.split_at.ensures.back in
    rw take_rest (cut.0, cut.1 ∙ sym (append_assoc c.split_at.result.0.now line_feed _))
