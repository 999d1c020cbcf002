use Rattle.std.proofs.Common.{◌∙◌, Some, ap}
use Rattle.mud_words.specs.Line.{line_of}
use Rattle.mud_hall.specs.Notices.{world_after}
use Rattle.mud_hall.specs.Alone.{Alone}
use Rattle.mud_hall.proofs.Deciding.{decided, lawful}
use Rattle.mud_hall.proofs.solo.Solo.verdict.Goals as goal

pub returns-clause-decision : goal.returns-clause-decision
returns-clause-decision c =
    let d = c.self.inside in
    let s = c.args.self.now.state in
    decided d.world s.seen (Some d.player) s.player (line_of c.args.said.now) c.decide.result
    (c.self.invariant.world ∙ ap (λ (x : Alone). world_after x.state.seen) c.self.view_is)
    (ap (λ (x : Alone). x.state.player) c.self.view_is) c.decide.ensures.decision

pub returns-clause-lawful : goal.returns-clause-lawful
returns-clause-lawful c =
    let d = c.self.inside in
    let s = c.args.self.now.state in
    lawful d.world s.seen (Some d.player) s.player c.decide.result
    (c.self.invariant.world ∙ ap (λ (x : Alone). world_after x.state.seen) c.self.view_is)
    (ap (λ (x : Alone). x.state.player) c.self.view_is) c.decide.ensures.lawful
