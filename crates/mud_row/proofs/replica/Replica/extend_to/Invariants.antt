use Rattle.std.proofs.Common.{◌≡◌, ◌≤◌, length}
use Rattle.std.specs.Prelude.{max}
use mathlib.Core.List.{IsPrefix}
use Rattle.mud_chron.specs.Replay.{world_at}
use Rattle.mud_row.proofs.replica.Replica.extend_to.Given as goal

abbrev pub invariant-loop : goal.invariant-loop
invariant-loop l =
    (l.self-inside.pass.row ≡ l.fn.self.row) × (l.self-inside.at ≡ l.fn.self.at)
    × IsPrefix l.fn.self.list l.self-inside.pass.list
    × (length l.self-inside.pass.list ≡ l.counter)
    × (length l.self-inside.pass.list ≤ max (length l.fn.self.list) l.most)
    × (l.self-inside.at ≤ length l.self-inside.pass.list)
    × (l.self-inside.world ≡ world_at l.self-inside.pass.list l.self-inside.at)
