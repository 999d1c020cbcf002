use Rattle.std.proofs.Common.{Option, subst}
use Rattle.std.specs.Prelude.{IfSome}
use Rattle.mud_roads.specs.Passable.{Knowledge, IsFollower}
use Rattle.mud_roads.proofs.Following.{traveller-follows}
use Rattle.mud_hall.proofs.Travelling.{refreshed-follows}
use Rattle.mud_hall.proofs.travel.renew.Goals as goal

pub returns-in-Some : goal.returns-in-Some
returns-in-Some c =
    let now = c.args.world.now in
    let follows : IsFollower now c.in-Some.known =
    subst (λ (t : Option Knowledge). IfSome t (IsFollower now)) c.in-Some.is c.requires.known in
    refreshed-follows now c.in-Some.known c.refresh.new.self c.refresh.result follows c.refresh.ensures.keys
    c.refresh.ensures.traveller c.refresh.ensures.err

pub returns-in_ok-of-in_default : goal.returns-in_ok-of-in_default
returns-in_ok-of-in_default c =
    traveller-follows c.args.world.now c.in_ok-of-in_default.field-0 c.in_ok-of-in_default.ensures.traveller
    c.in_ok-of-in_default.ensures.keys
