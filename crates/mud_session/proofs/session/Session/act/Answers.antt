use Rattle.mud_words.specs.Line.{line_of}
use Rattle.mud_hall.specs.Replies.{reply_shown}
use Rattle.mud_session.proofs.Answering.{on_ok, sayable, acted}
use Rattle.mud_session.proofs.session.Session.act.Goals as goal

pub say-requires : goal.say-requires
say-requires g c = sayable c.questions.ensures _ c.act-reply.ensures.replies.0 (line_of c.args.line.now)
    (reply_shown c.act-reply.result) _ c.requires.acts c.act-reply.ensures.replies.2

pub returns-clause-turn : goal.returns-clause-turn
returns-clause-turn g c =
    let did = c.act-reply.ensures in
    let reply = reply_shown c.act-reply.result in
    let state = g.D.Door.state in
    on_ok c.say.result
    (λ said text heard read. acted g.D.Door.takes_in text (line_of c.args.line.now) c.args.self.now c.tell.new.self
    c.say.new.self (state c.args.door.now) (state c.act-reply.new.self) (state c.tell.new.door) reply
    c.requires.goes_on heard read c.requires.acts did.replies did.stored did.told c.tell.ensures.rest
    c.in_ok-tell.ensures.told
    (sayable c.questions.ensures _ did.replies.0 (line_of c.args.line.now) reply _ c.requires.acts did.replies.2) said)
    c.say.ensures
