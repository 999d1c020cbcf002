use Rattle.std.proofs.Common.{◌≡◌, take, sym, ◌∙◌, ap, arith}
use Rattle.std.specs.Prelude.{sum_by, count_by}
use Rattle.std.proofs.lemmas.List.{take_all}
use Rattle.mud_search.specs.Slots.{is_waiting, is_held}
use Rattle.mud_search.proofs.Frontiers.{frontier-rest}
use Rattle.mud_search.proofs.frontier.Frontier.rest.Goals as goal

pub returns-clause-least : goal.returns-clause-least
returns-clause-least g c none_waiting none_held =
    let boards = c.self.inside.boards.items in
    let seen = c.deref-board-items.result.now in
    let all : take c.loop-board.board-index seen ≡ boards =
    take_all c.loop-board.board-index seen (omega arith) ∙ c.deref-board-items.ensures.value in
    rw (← c.self.view_is) (frontier-rest g.J.Job.world g.J.Job.travellers boards c.self.invariant
    (ap (sum_by (count_by is_waiting)) (sym all) ∙ sym c.loop-board.invariant.waiting ∙ none_waiting)
    (ap (sum_by (count_by is_held)) (sym all) ∙ sym c.loop-board.invariant.held ∙ none_held))
