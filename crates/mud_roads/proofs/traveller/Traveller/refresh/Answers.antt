use Rattle.std.proofs.Common.{ℕ, Bool, true, List, refl, ap, sym, subst, ◌∙◌}
use Rattle.mud_world.specs.State.{unlocked}
use Rattle.mud_roads.specs.Passable.{Knowledge, IsDrawn, IsTraveller, tested_roads}
use Rattle.mud_roads.specs.inner.Tables.{Knows}
use Rattle.mud_roads.specs.inner.Growing.{is_marked}
use Rattle.mud_roads.specs.declared.traveller.Traveller.TheInside.{Inside}
use Rattle.mud_roads.specs.contracts.traveller.Traveller.{the_view}
use Rattle.mud_roads.proofs.Following.{drawn-travels, marked-roads, refreshed}
use Rattle.mud_roads.proofs.traveller.Traveller.refresh.Goals.{then-not-has_marks_of+in_ok-self-inside}
use Rattle.mud_roads.proofs.traveller.Traveller.refresh.Goals.{else-not-has_marks_of}
use Rattle.mud_roads.proofs.traveller.Traveller.refresh.Goals as goal

pub returns-then-self-clause-traveller : goal.returns-then-self-clause-traveller
returns-then-self-clause-traveller c =
    drawn-travels c.args.world.now c.args.self.now c.requires.drawing
    (c.requires.drawing.current (ap (λ (t : Knowledge). t.current) (sym c.self.view_is) ∙ c.if-self.true))

pub returns-clause-traveller : goal.returns-clause-traveller
returns-clause-traveller c =
    let now = c.args.world.now in
    let access = c.in_ok-access.access in
    let was : IsDrawn now (the_view c.self.inside) =
    subst (λ (t : Knowledge). IsDrawn now t) (sym c.self.view_is) c.requires.drawing in
    let knows : Knows now access.player access.marks.items = λ n.
    c.in_ok-access.ensures.knows n ∙ ap (λ (p : ℕ). unlocked now p n) (sym c.in_ok-access.ensures.player) in
    let fresh = refreshed now (the_view c.self.inside) was access.player c.in_ok-access.ensures.player
    access.marks.items c.in_ok-access.ensures.count knows in
    let P : Inside → Type 0 = λ s. IsTraveller now (the_view
    (record { access = access; place = s.place; is_current = true; keys = s.keys; roads = s.roads })) in
    elim c.if-not-has_marks_of.branch [
      | then-not-has_marks_of+in_ok-self-inside w ↦
          subst P (sym w.self-inside-is)
          (fresh w.in_ok-self-inside.field-0 w.in_ok-self-inside.ensures.count w.in_ok-self-inside.ensures.roads true)
      | else-not-has_marks_of w ↦
          subst P (sym w.self-inside-is)
          (fresh c.self.inside.roads was.lined
          (λ room. was.drawn room
          ∙ ap (λ (ms : List Bool). tested_roads now (is_marked ms) room) (w.if-not-has_marks_of.ensures.0 refl)
          ∙ marked-roads now access.player access.marks.items knows room) true)
    ]
