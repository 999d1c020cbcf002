use Rattle.std.proofs.Common.{◌≡◌, ℕ, Err, subst, sym, ◌∙◌, ap}
use Rattle.mud_hall.specs.Desk.{DeskState}
use Rattle.mud_hall.specs.Alone.{Alone, IsResumed}
use Rattle.mud_session.specs.Session.{TakesNone}
use Rattle.mud_session.specs.Script.{IsFront, IsOpen}
use Rattle.mud_session.specs.inner.Service.{IsWholeAt}
use Rattle.mud_session.proofs.ScriptLemmas.{front_at_start}
use Rattle.mud_session.proofs.scripting.script_on.Goals as goal

pub returns-in_default-clause-fault : goal.returns-in_default-clause-fault
returns-in_default-clause-fault g c = record {
  start = c.in-Ok.solo;
  resumed = c.in-Ok.ensures.ok;
  front = front_at_start TakesNone c.args.limits.capacity c.in-Ok.solo.state c.args.source.now c.args.sink.now
      c.requires.fresh;
  reader_failed = λ e. absurd (cc);
  writer_failed = λ e. absurd (cc);
  many = λ e. absurd (cc);
}

pub returns-in-Ok-converse-clause-ok : goal.returns-in-Ok-converse-clause-ok
returns-in-Ok-converse-clause-ok g c =
    let solo = c.set_workers.new.self in
    let resumed = subst (IsResumed c.args.limits.capacity c.args.entries.items c.args.word.now)
    (sym c.set_workers.ensures) c.in-Ok.ensures.ok in
    let whole = subst (λ (n : ℕ). IsWholeAt TakesNone n solo.state c.args.source.now c.converse.new.source
    c.args.sink.now c.converse.new.sink c.converse.new.door.state)
    (ap (λ (a : Alone). a.capacity) resumed.is) c.in-Ok-converse.ensures.ok in
    record {
      start = solo;
      resumed = resumed;
      whole = whole.whole;
      history_is = c.into_history.ensures.history ∙ sym (ap (λ (d : DeskState). d.seen) whole.desk_is);
    }

pub returns-in-Err-converse-clause-fault : goal.returns-in-Err-converse-clause-fault
returns-in-Err-converse-clause-fault g c =
    let solo = c.set_workers.new.self in
    let source = c.converse.new.source in
    let sink = c.converse.new.sink in
    let resumed = subst (IsResumed c.args.limits.capacity c.args.entries.items c.args.word.now)
    (sym c.set_workers.ensures) c.in-Ok.ensures.ok in
    let same = ap (λ (a : Alone). a.capacity) resumed.is in
    record {
      start = solo;
      resumed = resumed;
      front = subst (λ (n : ℕ). IsFront TakesNone n solo.state c.args.source.now source c.args.sink.now sink)
          same c.in-Err-converse.ensures.fault;
      reader_failed = λ e. c.in-Err-converse.ensures.read (ap Err e);
      writer_failed = λ e. c.in-Err-converse.ensures.write (ap Err e);
      many = λ e. (
        c.in-Err-converse.ensures.many (ap Err e),
        subst
            (λ (n : ℕ). IsOpen TakesNone n solo.state c.args.source.now source c.args.sink.now sink)
            same (c.in-Err-converse.ensures.open (ap Err e)),
      );
    }
