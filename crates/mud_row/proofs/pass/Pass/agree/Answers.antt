use Rattle.std.proofs.Common.{◌≤◌, length, sym, ap, arith}
use Rattle.mud_row.specs.inner.Known.{known_front}
use Rattle.mud_row.proofs.Notes.{prefix_of_take}
use Rattle.mud_row.proofs.pass.Pass.agree.Goals as goal

pub returns-clause-shorter : goal.returns-clause-shorter
returns-clause-shorter c le =
    let mine = ap (λ k. k.list) c.self.view_is in
    let theirs = ap (λ k. k.list) c.other.view_is in
    let within : length (known_front c.self.inside.count c.self.inside.notes.items) ≤ c.min-shared.result =
    omega (arith, ap length mine, ap length theirs, c.self.invariant.1, c.other.invariant.1, c.min-shared.ensures)
    in
    rw (← mine, ← theirs) (prefix_of_take _ _ c.min-shared.result c.compare.ensures.agree within)

pub returns-clause-longer : goal.returns-clause-longer
returns-clause-longer c le =
    let mine = ap (λ k. k.list) c.self.view_is in
    let theirs = ap (λ k. k.list) c.other.view_is in
    let within : length (known_front c.other.inside.count c.other.inside.notes.items) ≤ c.min-shared.result =
    omega (arith, ap length mine, ap length theirs, c.self.invariant.1, c.other.invariant.1, c.min-shared.ensures)
    in
    rw (← mine, ← theirs) (prefix_of_take _ _ c.min-shared.result (sym c.compare.ensures.agree) within)
