use Rattle.std.proofs.Common.{◌++◌, get_or}
use Rattle.std.specs.Prelude.{string_bytes, codes}
use Rattle.mud_survey.specs.declared.survey.Stranded.{Stranded}
use Rattle.mud_survey.specs.Json.{stranded_json}
use Rattle.mud_survey.proofs.Writing.{piece, element}
use Rattle.mud_survey.proofs.json.push_other_stranded.Goals as goal

pub loop-stranded-preserved : goal.loop-stranded-preserved
loop-stranded-preserved c =
    let before = string_bytes c.loop-stranded.out in
    let after = string_bytes c.push_stranded.new.out in
    let i = c.loop-stranded.stranded-index in
    let none : Stranded = record { player = 0; room = 0 } in
    element (λ s. codes "," ++ stranded_json s) c.args.all.now i none (string_bytes c.args.out.now) before after
    c.loop-stranded-test.true c.loop-stranded.invariant
    (piece before (string_bytes c.push_str.new.self) (codes ",") (stranded_json (get_or c.args.all.now i none)) after
    c.in_ok-push_str.ensures.bytes c.in_ok-push_stranded.ensures)
