use Rattle.std.proofs.Common.{Option, None, Some, ap, sym, ◌∙◌}
use Rattle.std.specs.Prelude.{IfNone}
use Rattle.mud_search.specs.declared.task.Task.{Task}
use Rattle.mud_search.specs.Rooms.{slot_in}
use Rattle.mud_search.proofs.Frontiers.{frontier-still}
use Rattle.mud_search.proofs.frontier.Frontier.next_left.Goals as goal

none-then : (o : Option Task) (P Q : Type 0) → (P → Q) → IfNone o P → IfNone o Q
none-then None P Q f p = f p
none-then (Some t) P Q f p = tt

pub returns-in-None-clause-none : goal.returns-in-None-clause-none
returns-in-None-clause-none g c =
    let boards = c.self.inside.boards.items in
    none-then c.first_held.result _ _ (λ unheld.
    rw (← c.self.view_is) (frontier-still g.J.Job.world g.J.Job.travellers boards c.self.invariant
    (λ m r l e. c.in-None.ensures.none m r l (ap (λ f. slot_in f m r) (sym c.self.view_is) ∙ e))
    (λ m r l e. unheld m r l (ap (λ f. slot_in f m r) (sym c.self.view_is) ∙ e)))) c.first_held.ensures.none
