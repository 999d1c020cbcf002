use Rattle.std.proofs.Common.{map, length, ap, sym, ◌∙◌}
use Rattle.std.proofs.lemmas.List.{length-map}
use Rattle.mud_search.specs.Least.{label_in}
use Rattle.mud_search.specs.inner.Order.{labels_in}
use Rattle.mud_search.specs.Slots.{label_of}
use Rattle.mud_search.specs.inner.Tables.{lists_in}
use Rattle.mud_search.proofs.Frontiers.{label-of_boards, frontier-bounded}
use Rattle.mud_search.proofs.frontier.Frontier.into_member_labels.Goals as goal

pub returns-clause-labels : goal.returns-clause-labels
returns-clause-labels g c = λ m room.
    ap (λ l. label_in l m room) c.of.ensures ∙ label-of_boards c.self.inside.boards.items m room
    ∙ ap (λ f. labels_in f m room) c.self.view_is

pub returns-clause-count : goal.returns-clause-count
returns-clause-count g c =
    ap (λ l. length (lists_in l)) c.of.ensures ∙ length-map c.self.inside.boards.items (map label_of)
    ∙ c.self.invariant.count

pub returns-clause-bounded : goal.returns-clause-bounded
returns-clause-bounded g c = λ m room l is.
    frontier-bounded g.J.Job.world g.J.Job.travellers c.self.inside.boards.items c.self.invariant m room l
    (sym (label-of_boards c.self.inside.boards.items m room) ∙ ap (λ l. label_in l m room) (sym c.of.ensures) ∙ is)
