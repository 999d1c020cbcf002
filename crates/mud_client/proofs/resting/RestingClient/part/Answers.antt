use Rattle.std.proofs.Common.{subst, sym, refl}
use Rattle.mud_client.specs.Resting.{RestingState, IsLast}
use Rattle.mud_client.proofs.Going.{last_so}
use Rattle.mud_client.proofs.resting.RestingClient.part.Goals as goal

pub returns : goal.returns
returns c =
    subst (λ (r : RestingState). IsLast c.args.line.now c.args.ending r.framing c.close.new.out.items) (rw (sym
    c.deref_mut-link.ensures.value) at c.self.view_is)
    (last_so c.args.line.now c.new-text.result.items c.say_last.new.out.items c.close.new.out.items c.args.ending
    c.say_last.new.self c.deref_mut-link.result.now.framing c.new-text.ensures.items c.say_last.ensures.same
    c.say_last.ensures.said
    c.close.ensures)
