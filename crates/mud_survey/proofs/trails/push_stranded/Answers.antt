use Rattle.std.proofs.Common.{◌++◌, ◌∷◌, [], append_assoc, ap, sym, ◌∙◌}
use Rattle.std.specs.List.{range_with_len}
use Rattle.mud_survey.specs.inner.Trailed.{strandings}
use Rattle.mud_survey.proofs.Trailing.{strandings-more}
use Rattle.mud_survey.proofs.trails.push_stranded.Goals as goal

pub loop-room-preserved : goal.loop-room-preserved
loop-room-preserved c =
    let old = c.args.stranded.now.items in
    let room = c.loop-room.room in
    let one = strandings c.args.player c.args.reached.now c.args.back.now (room ∷ []) in
    let before = strandings c.args.player c.args.reached.now c.args.back.now (range_with_len 0 room) in
    c.in_ok-push_if_stranded.ensures ∙ ap (λ l. l ++ one) c.loop-room.invariant ∙ append_assoc old before one
    ∙ ap (λ l. old ++ l) (sym (strandings-more c.args.player c.args.reached.now c.args.back.now room))
