use Rattle.std.proofs.Common.{Option, None, Some, ap, sym, ◌∙◌}
use Rattle.std.specs.Prelude.{IfNone}
use Rattle.mud_search.specs.declared.task.Task.{Task}
use Rattle.mud_search.specs.Rooms.{slot_in}
use Rattle.mud_search.proofs.Frontiers.{frontier-still}
use Rattle.mud_search.proofs.frontier.Frontier.next.Goals as goal

at-none : (o : Option Task) (P : Type 0) → P → IfNone o P
at-none None P p = p
at-none (Some t) P p = tt

pub returns-in_err-task-clause-least : goal.returns-in_err-task-clause-least
returns-in_err-task-clause-least g c =
    let boards = c.self.inside.boards.items in
    at-none c.from_residual.result _ (λ order.
    rw (← c.self.view_is) (frontier-still g.J.Job.world g.J.Job.travellers boards c.self.invariant
    (λ m r l e. c.in_err-task.ensures.none m r l (ap (λ f. slot_in f m r) (sym c.self.view_is) ∙ e))
    (λ m r l e. order.none_held m r l (ap (λ f. slot_in f m r) (sym c.self.view_is) ∙ e))))
