use Rattle.std.proofs.Common.{map, ap, ◌∙◌}
use Rattle.std.specs.Prelude.{is_some}
use Rattle.std.specs.List.{range_with_len}
use Rattle.mud_search.specs.Least.{label_in}
use Rattle.mud_survey.proofs.Coming.{reached-marks, reached-size}
use Rattle.mud_survey.proofs.trails.rooms_reached.Goals as goal

pub returns-clause-marks : goal.returns-clause-marks
returns-clause-marks c =
    let labels = label_in c.args.labels.now in
    reached-marks c.args.world.now c.next_number.ensures.sound c.args.traveller.now c.requires.traveller labels
    c.requires.least c.in_ok-marks.marks.items
    (c.in_ok-marks.ensures
    ∙ ap (λ n. map (λ room. is_some (labels 0 room)) (range_with_len 0 n)) c.next_number.ensures.next)

pub returns-clause-size : goal.returns-clause-size
returns-clause-size c =
    reached-size (label_in c.args.labels.now) c.next_number.result c.in_ok-marks.marks.items c.in_ok-marks.ensures
    ∙ c.next_number.ensures.next
