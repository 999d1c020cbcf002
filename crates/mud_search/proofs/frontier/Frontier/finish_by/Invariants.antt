use Rattle.mud_search.specs.inner.Boards.{potential}
use Rattle.mud_search.specs.inner.Tables.{lists_in}
use Rattle.mud_search.proofs.frontier.Frontier.finish_by.Given as goal

abbrev pub decreases-loop-task : goal.decreases-loop-task
decreases-loop-task g l = potential (lists_in l.self)
