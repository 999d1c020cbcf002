use Rattle.std.proofs.Common.{Bool, length, subst, sym, true, refl}
use Rattle.mud_client.specs.declared.framing.Framing.{Framing}
use Rattle.mud_client.specs.Client.{ClientState, state_of}
use Rattle.mud_client.specs.Steps.{Parts}
use Rattle.mud_client.proofs.Stepping.{parted}
use Rattle.mud_client.proofs.client.Client.part.Goals as goal

pub returns : goal.returns
returns g c =
    let n = length g.J.HallName.cells in
    let inside = c.client.inside in
    let link = c.deref_mut-link.result.now in
    let same = sym c.deref_mut-link.ensures.value in
    let at = λ (framing : Framing) (ended : Bool).
    state_of n framing link.waiting.items link.session inside.desk.state ended in
    subst (λ (old : ClientState). Parts c.args.line.now c.args.ending old (at c.close.new.self true)
    c.close.new.out.items) (rw same at c.client.view_is)
    (parted c.args.line.now c.new-text.result.items c.say_last.new.out.items c.close.new.out.items c.args.ending
    c.say_last.new.self (at link.framing inside.has_ended) (at c.close.new.self true) c.new-text.ensures.items
    c.say_last.ensures.same refl c.say_last.ensures.said c.close.ensures)
