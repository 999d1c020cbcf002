use Rattle.std.proofs.Common.{◌≡◌, length, ap, arith}
use Rattle.mud_hall.specs.Alone.{Alone}
use Rattle.mud_hall.proofs.solo.Solo.text.Goals as goal

pub returns-clause-room : goal.returns-clause-room
returns-clause-room c =
    let list : length c.self.inside.history.items ≡ length c.args.self.now.state.seen =
    ap (λ (v : Alone). length v.state.seen) c.self.view_is in
    let capacity : c.self.inside.capacity ≡ c.args.self.now.capacity = ap (λ (v : Alone). v.capacity) c.self.view_is in
    omega (arith, c.version.ensures.version, list, capacity, c.self.invariant.room)
