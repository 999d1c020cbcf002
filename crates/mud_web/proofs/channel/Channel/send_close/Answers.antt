use Rattle.std.proofs.Common.{sym}
use Rattle.websocket.specs.Connection.{closing_state}
use Rattle.mud_web.proofs.Ends.{sends_close}
use Rattle.mud_web.proofs.channel.Channel.send_close.Goals as goal
use Rattle.mud_web.proofs.channel.Channel.send_close.Goals.{in-Ok, in-Err}

pub returns-clause-ok : goal.returns-clause-ok
returns-clause-ok c =
    elim c.match-close.branch [
      | in-Ok w ↦ rw (w.result-is, sym c.self.view_is) (sends_close c.self.inside.context.value c.close.new.self
          c.args.ending (closing_state c.self.inside.context.value.state) c.args.out.now.items c.close.new.output.items
          c.self.invariant (rw (c.deref_mut.ensures.value, c.code.ensures, c.reason.ensures) at w.in-Ok.ensures.ok))
      | in-Err w ↦ rw w.result-is tt
    ]
