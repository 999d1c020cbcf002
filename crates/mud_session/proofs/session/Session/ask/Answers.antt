use Rattle.std.proofs.Common.{refl, ap, ◌∙◌}
use Rattle.mud_words.specs.Line.{line_of}
use Rattle.mud_hall.specs.Answers.{answer_shown}
use Rattle.mud_session.specs.State.{SessionState}
use Rattle.mud_session.proofs.Answering.{on_ok, unanswered, asked}
use Rattle.mud_session.proofs.session.Session.ask.Goals as goal
use Rattle.mud_session.proofs.session.Session.ask.Goals.{in-Some-2, in-None-2}

pub returns-then-not-branch-clause-turn : goal.returns-then-not-branch-clause-turn
returns-then-not-branch-clause-turn g c =
    let state = g.D.Door.state in
    let looked = c.in_ok-look.ensures.looked c.requires.goes_on in
    on_ok c.send.result
    (λ said text heard read. unanswered g.D.Door.takes_in text c.args.self.now c.look.new.self c.send.new.self
    (state c.args.door.now) (state c.look.new.door) (state c.look.new.door) heard looked refl said) c.send.ensures

pub returns-in-Err-clause-turn : goal.returns-in-Err-clause-turn
returns-in-Err-clause-turn g c =
    let state = g.D.Door.state in
    let looked = c.in_ok-look.ensures.looked c.requires.goes_on in
    on_ok c.send-in-Err.result
    (λ said text heard read. unanswered g.D.Door.takes_in text c.args.self.now c.look.new.self c.send-in-Err.new.self
    (state c.args.door.now) (state c.look.new.door) (state c.ask.new.self) heard looked c.ask.ensures.same
    said) c.send-in-Err.ensures

pub returns-in_ok-send_answer-in-Ok-clause-turn : goal.returns-in_ok-send_answer-in-Ok-clause-turn
returns-in_ok-send_answer-in-Ok-clause-turn g c = λ text heard read.
    let state = g.D.Door.state in
    let look = c.in_ok-look.ensures in
    let said =
    ap (λ (s : SessionState). let t : SessionState = record s { has_ended = c.is_quit-self-inside.result } in t)
    (c.self.view_is ∙ c.in_ok-send_answer-in-Ok.ensures) in
    asked g.D.Door.takes_in text (line_of c.args.line.now) c.args.self.now c.look.new.self c.match-answer-2.self
    (state c.args.door.now) (state c.look.new.door) (state c.ask.new.self)
    c.is_quit-self-inside.result
    (answer_shown c.in-Ok.answer) heard read c.requires.question c.is_quit-self-inside.ensures
    (look.looked c.requires.goes_on) (look.all c.if-not-branch.false) c.ask.ensures.same
    c.in-Ok.ensures.answers
    (elim c.match-answer-2.branch [ in-Some-2 w ↦ w.self-is ∙ said | in-None-2 w ↦ w.self-is ∙ said ])
