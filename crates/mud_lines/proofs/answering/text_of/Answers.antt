use Rattle.std.proofs.Common.{◌++◌, Global, String, ap, ◌∙◌, arith}
use Rattle.std.specs.Prelude.{string_bytes}
use Rattle.std.specs.List.{flat_map}
use Rattle.std.proofs.lemmas.List.{take_all}
use Rattle.mud_chron.specs.Text.{line_feed}
use Rattle.mud_lines.proofs.Typing.{text-of}
use Rattle.mud_lines.proofs.answering.text_of.Goals as goal

pub returns : goal.returns
returns c =
    c.loop-line.invariant
    ∙ ap (flat_map (λ (line : String Global). string_bytes line ++ line_feed))
    (take_all c.loop-line.line-index c.args.lines.now (omega (arith, c.loop-line-test.false)))
    ∙ text-of c.args.lines.now
