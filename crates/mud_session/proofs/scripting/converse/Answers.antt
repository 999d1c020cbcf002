use Rattle.std.proofs.Common.{◌≡◌, false, sym, ◌∙◌, arith, ap}
use Rattle.std.proofs.lemmas.List.{length-take}
use Rattle.std.proofs.lemmas.Result.{on_ok_weaker, on_err_weaker, err_from_is_err_and}
use Rattle.std.proofs.KnownBytes.{Keeps-refl}
use Rattle.mud_io.specs.Streams.{Reader}
use Rattle.mud_session.proofs.ScriptLemmas.{ends_here, goes_on_here, reached_none, reached_more, whole_at_end}
use Rattle.mud_session.proofs.ScriptLemmas.{whole_at_quit, front_so_far, front_served, front_at_end, is_open}
use Rattle.mud_session.proofs.scripting.converse.Goals as goal

pub loop-reads-init : goal.loop-reads-init
loop-reads-init g c = record {
  reads = ap (λ (r : Reader). r.reads) c.requires.fresh;
  reached = reached_none g.D.Door.takes_in _ _ _ _ c.requires.fresh c.requires.terminal
      c.requires.sent;
}

pub returns-in-Err-clause-fault : goal.returns-in-Err-clause-fault
returns-in-Err-clause-fault g c =
    front_so_far c.loop-reads.invariant.reached c.in-Err.ensures.bytes c.in-Err.ensures.at_end

pub returns-then-n-eq0-clause-ok : goal.returns-then-n-eq0-clause-ok
returns-then-n-eq0-clause-ok g c =
    on_ok_weaker c.serve.result
    (λ serves. whole_at_end c.loop-reads.invariant.reached (rw c.if-n-eq0.true at c.in-Ok.ensures.bytes.0)
    (ends_here _ c.in-Ok.n c.read.new.buf c.in-Ok.ensures.at_end c.if-n-eq0.true (omega arith))
    (c.in-Ok.ensures.bytes.1 c.if-n-eq0.true (omega arith))
    (serves c.loop-reads.invariant.reached.bytes c.loop-reads.invariant.reached.stands))
    c.serve.ensures.ok

pub returns-then-n-eq0-clause-fault : goal.returns-then-n-eq0-clause-fault
returns-then-n-eq0-clause-fault g c =
    on_err_weaker c.serve.result
    (λ part. front_at_end c.loop-reads.invariant.reached (rw c.if-n-eq0.true at c.in-Ok.ensures.bytes.0)
    (ends_here _ c.in-Ok.n c.read.new.buf c.in-Ok.ensures.at_end c.if-n-eq0.true (omega arith))
    (c.in-Ok.ensures.bytes.1 c.if-n-eq0.true (omega arith))
    (part c.loop-reads.invariant.reached.bytes c.loop-reads.invariant.reached.stands))
    c.serve.ensures.fault

pub returns-in_err-serve-clause-fault : goal.returns-in_err-serve-clause-fault
returns-in_err-serve-clause-fault g c =
    let p = err_from_is_err_and c.from_residual.result c.from_residual.ensures.1 in
    rw p.1 (front_served {start = (g.D.Door.state c.args.door.now).desk}
    c.loop-reads.invariant.reached c.in-Ok.ensures.bytes.0
    (goes_on_here _ c.in-Ok.n c.read.new.buf c.in-Ok.ensures.at_end (omega arith))
    (c.in_err-serve.ensures.fault c.loop-reads.invariant.reached.bytes c.loop-reads.invariant.reached.stands))

pub returns-then-ended-clause-ok : goal.returns-then-ended-clause-ok
returns-then-ended-clause-ok g c =
    whole_at_quit {start = (g.D.Door.state c.args.door.now).desk}
    c.loop-reads.invariant.reached c.in-Ok.ensures.bytes.0
    (goes_on_here _ c.in-Ok.n c.read.new.buf c.in-Ok.ensures.at_end (omega arith))
    (sym c.ended.ensures ∙ c.if-ended.true)
    (c.in_ok-serve.ensures.ok c.loop-reads.invariant.reached.bytes c.loop-reads.invariant.reached.stands)

pub loop-reads-preserved : goal.loop-reads-preserved
loop-reads-preserved g c =
    let goes_on : c.serve-in-loop-reads.new.session.has_ended ≡ false = cc in
    record {
      reads = omega (arith, c.in-Ok.ensures.reads);
      reached = reached_more {start = (g.D.Door.state c.args.door.now).desk}
          c.loop-reads.invariant.reached c.in-Ok.ensures.bytes.0
          (goes_on_here _ c.in-Ok.n c.read.new.buf c.in-Ok.ensures.at_end (omega arith))
          c.in-Ok.ensures.reads (omega (arith, length-take c.in-Ok.n c.read.new.buf, c.in-Ok.ensures.bound))
          goes_on
          (c.in_ok-serve.ensures.ok c.loop-reads.invariant.reached.bytes c.loop-reads.invariant.reached.stands);
    }

pub returns-clause-fault : goal.returns-clause-fault
returns-clause-fault g c =
    front_so_far c.loop-reads.invariant.reached (Keeps-refl _) c.loop-reads.invariant.reached.no_end

pub returns-clause-open : goal.returns-clause-open
returns-clause-open g c = λ _. is_open c.loop-reads.invariant.reached
