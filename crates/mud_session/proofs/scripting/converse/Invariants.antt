use Rattle.std.proofs.Common.{◌≡◌}
use Rattle.mud_session.proofs.ScriptLemmas.{Reached}
use Rattle.mud_session.proofs.scripting.converse.Given as goal

-- the bytes so far are read, and their output is written
abbrev pub invariant-loop-reads : goal.invariant-loop-reads
invariant-loop-reads g l = record {
  reads : l.source.reads ≡ l._reads;
  reached : Reached g.D.Door.takes_in (g.D.Door.state l.fn.door).capacity (g.D.Door.state l.fn.door).desk
      l.fn.source l.source l.fn.sink.holds l.sink.holds l.session (g.D.Door.state l.door);
}
