use Rattle.std.proofs.Common.{◌≡◌, None, true, length, refl, arith}
use Rattle.mud_hall.proofs.Sitting.{seated_none, seated, unseated}
use Rattle.mud_hall.proofs.hall.Hall.sit.Goals as goal

pub returns-in_default : goal.returns-in_default
returns-in_default g c =
    let none : c.args.player ≡ None = grind (arith, c.in_default.not-Some) in
    seated_none (length g.J.HallName.cells) c.args.player c.args.desk.now c.guest.new.self none c.guest.ensures

pub returns-then-connect : goal.returns-then-connect
returns-then-connect g c =
    seated (length g.J.HallName.cells) c.in-Some.player c.args.player true c.args.desk.now c.guest.new.self
    c.connect.new.desk c.in-Some.is c.guest.ensures c.connect.ensures.acts c.if-connect.ensures.sits refl

pub returns : goal.returns
returns g c =
    unseated (length g.J.HallName.cells) c.args.player c.args.desk.now c.guest.new.self c.connect.new.desk
    c.guest-2.new.self c.guest.ensures c.connect.ensures.acts c.guest-2.ensures
