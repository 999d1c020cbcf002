use Rattle.std.proofs.Common.{List, subst, sym}
use Rattle.mud_chron.specs.Entry.{Entry}
use Rattle.mud_hall.specs.Settlement.{IsSettled}
use Rattle.mud_server_end.specs.Server.{MayEnd}
use Rattle.mud_server_end.proofs.Written.{may_end}
use Rattle.mud_server_end.proofs.ending.settle.Goals as goal

pub returns-in-Ok-clause-ends : goal.returns-in-Ok-clause-ends
returns-in-Ok-clause-ends g c =
    let loaded : List Entry = g.J.HallName.loaded in
    subst (λ (h : List Entry). MayEnd c.args.limits loaded h) (sym c.try_history.ensures.same)
    (may_end c.args.limits loaded c.in-Ok.settled.history c.args.desks.items c.requires.few c.in-Ok.ensures.settled
    c.in_ok-try_history-in-Ok.ensures.loadable)

pub returns-in-Ok-clause-settled : goal.returns-in-Ok-clause-settled
returns-in-Ok-clause-settled g c =
    subst (λ (h : List Entry). IsSettled g.J.HallName.loaded c.args.desks.items h) (sym c.try_history.ensures.same)
    c.in-Ok.ensures.settled
