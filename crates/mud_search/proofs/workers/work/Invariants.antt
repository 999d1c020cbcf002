use Rattle.std.proofs.Common.{◌≡◌, ◌<◌, length}
use Rattle.mud_search.specs.declared.task.Task.{Task}
use Rattle.mud_search.specs.declared.pool.Next.TheVariants.{Room}
use Rattle.mud_search.proofs.workers.work.Given as goal

abbrev pub invariant-loop : goal.invariant-loop
invariant-loop g l = (t : Task) → l.next ≡ Room t → t.member < length g.J.Job.travellers
