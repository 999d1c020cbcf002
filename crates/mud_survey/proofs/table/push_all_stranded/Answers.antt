use Rattle.std.specs.Prelude.{string_bytes}
use Rattle.mud_survey.specs.Table.{stranded_text}
use Rattle.mud_survey.proofs.Writing.{element}
use Rattle.mud_survey.proofs.table.push_all_stranded.Goals as goal

pub loop-stranded-preserved : goal.loop-stranded-preserved
loop-stranded-preserved c =
    let two = c.in_ok-push_stranded.ensures in
    element (stranded_text c.args.world.now) c.args.all.now c.loop-stranded.stranded-index _
    (string_bytes c.args.out.now) (string_bytes c.loop-stranded.out) (string_bytes c.push_stranded.new.out)
    c.loop-stranded-test.true c.loop-stranded.invariant two
