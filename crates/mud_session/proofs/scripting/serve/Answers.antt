use Rattle.std.proofs.Common.{◌∙◌}
use Rattle.mud_session.proofs.ServeLemmas.{none_served, all_served, part_served}
use Rattle.mud_session.proofs.scripting.serve.Goals as goal

pub returns-in-Err-clause-fault : goal.returns-in-Err-clause-fault
returns-in-Err-clause-fault g c = λ earlier stands. none_served g.D.Door.takes_in earlier c.args.bytes.now
    (g.D.Door.state c.args.door.now) c.args.sink.now.holds

pub returns-then-write_all-clause-ok : goal.returns-then-write_all-clause-ok
returns-then-write_all-clause-ok g c = λ earlier stands.
    all_served g.D.Door.takes_in earlier c.args.bytes.now c.args.session.now c.feed.new.self c.reuse.new.self
    (g.D.Door.state c.args.door.now) (g.D.Door.state c.feed.new.door) _ _ c.as_slice.result.now c.requires.sent
    (c.in-Ok.ensures.ok earlier stands)
    (c.as_slice.ensures.value ∙ c.take_out-text.ensures.text) (c.reuse.ensures ∙ c.take_out-text.ensures.rest)
    c.feed.ensures.capacity (c.write_all.ensures.whole c.if-write_all.true)

pub returns-else-write_all-clause-fault : goal.returns-else-write_all-clause-fault
returns-else-write_all-clause-fault g c = λ earlier stands.
    part_served g.D.Door.takes_in earlier c.args.bytes.now c.args.session.now c.feed.new.self
    (g.D.Door.state c.args.door.now) (g.D.Door.state c.feed.new.door) _ _ c.as_slice.result.now
    c.write_all.ensures.front.0 c.requires.sent
    (c.in-Ok.ensures.ok earlier stands)
    (c.as_slice.ensures.value ∙ c.take_out-text.ensures.text) c.write_all.ensures.front.1
