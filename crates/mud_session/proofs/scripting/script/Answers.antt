use Rattle.std.proofs.Common.{subst, ◌∙◌}
use Rattle.std.proofs.lemmas.Result.{on_ok_weaker, on_err_weaker}
use Rattle.mud_hall.specs.Alone.{Alone}
use Rattle.mud_hall.specs.Steps.{lone_desk}
use Rattle.mud_session.specs.Session.{TakesNone}
use Rattle.mud_session.specs.Script.{IsWhole, IsFront, IsOpen}
use Rattle.mud_session.proofs.ScriptLemmas.{front_at_start}
use Rattle.mud_session.proofs.scripting.script.Goals as goal

pub returns-in_default-clause-fault : goal.returns-in_default-clause-fault
returns-in_default-clause-fault g c =
    front_at_start TakesNone c.args.limits.capacity lone_desk c.args.source.now c.args.sink.now c.requires.fresh

pub returns-in_default-new-clause-fault : goal.returns-in_default-new-clause-fault
returns-in_default-new-clause-fault g c =
    front_at_start TakesNone c.args.limits.capacity lone_desk c.args.source.now c.args.sink.now c.requires.fresh

pub returns-clause-ok : goal.returns-clause-ok
returns-clause-ok g c =
    let source = c.converse.new.source in
    let sink = c.converse.new.sink in
    on_ok_weaker c.converse.result
    (λ whole. subst (λ (a : Alone). IsWhole TakesNone a.capacity a.state c.args.source.now source c.args.sink.now sink)
    (c.set_workers.ensures ∙ c.in-Ok.ensures) whole.whole)
    c.converse.ensures.ok

pub returns-clause-fault : goal.returns-clause-fault
returns-clause-fault g c =
    let source = c.converse.new.source in
    let sink = c.converse.new.sink in
    on_err_weaker c.converse.result
    (λ front. subst (λ (a : Alone). IsFront TakesNone a.capacity a.state c.args.source.now source c.args.sink.now sink)
    (c.set_workers.ensures ∙ c.in-Ok.ensures) front)
    c.converse.ensures.fault

pub returns-clause-open : goal.returns-clause-open
returns-clause-open g c = λ many.
    let source = c.converse.new.source in
    let sink = c.converse.new.sink in
    subst (λ (a : Alone). IsOpen TakesNone a.capacity a.state c.args.source.now source c.args.sink.now sink)
    (c.set_workers.ensures ∙ c.in-Ok.ensures) (c.converse.ensures.open many)
