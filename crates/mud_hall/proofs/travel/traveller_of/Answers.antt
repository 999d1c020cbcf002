use Rattle.std.proofs.Common.{Option, subst, sym, ◌∙◌}
use Rattle.std.specs.Prelude.{IfSome}
use Rattle.mud_roads.specs.Passable.{Knowledge, IsFollower}
use Rattle.mud_roads.proofs.Following.{drawn-travels}
use Rattle.mud_hall.proofs.travel.traveller_of.Goals as goal

pub returns-in-Some : goal.returns-in-Some
returns-in-Some c =
    let now = c.args.world.now in
    let follows : IsFollower now c.in-Some.traveller =
    subst (λ (t : Option Knowledge). IfSome t (IsFollower now)) c.in-Some.is c.requires in (
      drawn-travels now c.in-Some.traveller follows.drawing
          (follows.drawing.current (sym c.is_current.ensures ∙ c.if-is_current.true)),
      sym c.player.ensures ∙ c.if-player.true,
    )
