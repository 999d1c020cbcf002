use Rattle.std.proofs.Common.{◌≡◌, ◌+◌, ◌<◌, ℕ, List, ◌++◌, length, map, slice_get, take, None, Some}
use Rattle.std.proofs.Common.{refl, sym, ap, ◌∙◌, subst}
use Rattle.std.specs.Prelude.{string_bytes, IfSome}
use Rattle.mud_chron.specs.Entry.{Entry}
use Rattle.mud_row.specs.Known.{Standing}
use Rattle.mud_chron.specs.Replay.{world_at}
use Rattle.mud_roads.specs.Passable.{IsFollower}
use Rattle.mud_world.specs.State.{State}
use Rattle.mud_world.specs.History.{step_or_same}
use Rattle.mud_hall.specs.Desk.{IsHeld}
use Rattle.mud_hall.specs.inner.Desks.{state_of, if_told}
use Rattle.mud_hall.specs.declared.desk.Inner.{Inner}
use Rattle.mud_hall.proofs.Notices.{stepped, marked, after_step}
use Rattle.mud_hall.proofs.Applied.{Applies, next-world, held-next}
use Rattle.mud_hall.proofs.Worlds.{world-sound}
use Rattle.mud_hall.proofs.desk.Desk.take_one.Given.{Over}
use Rattle.mud_hall.proofs.desk.Desk.take_one.Goals as goal

-- the step applied the entry that was peeked at
applies : (g : Over) (c : goal.After-self-2-1 g)
    → Applies c.deref_mut-inner.result.now.replica c.step.new.self c.in-Some.entry.now
applies g c =
    let was : Standing = c.deref_mut-inner.result.now.replica in
    let same : c.peek.new.self ≡ was = c.peek.ensures.same in
    let further : c.step.new.self.at ≡ c.peek.new.self.at + 1 =
    stepped c.in_ok-step.field-0 c.peek.new.self.at
    (length c.peek.new.self.list) c.step.new.self.at c.in_ok-step.ensures.ok (rw same c.in-Some.ensures.place) in
    record {
      row = c.in_ok-step.ensures.still.0 ∙ ap (λ (r : Standing). r.row) same;
      list = c.in_ok-step.ensures.still.1 ∙ ap (λ (r : Standing). r.list) same;
      at = further ∙ ap (λ (r : Standing). r.at + 1) same;
      entry = sym c.in-Some.ensures.entry;
    }

pub returns-clause-still : goal.returns-clause-still
returns-clause-still g c =
    let d = c.self.inside in
    let inner : Inner = c.deref_mut-inner.result.now in
    let was : Standing = inner.replica in
    let same : c.peek.new.self ≡ was = c.peek.ensures.same in
    let line : List (List ℕ) = if_told c.in_ok-hears.hears (string_bytes c.write_notice.new.line) in
    let is = applies g c in
    after_step was c.step.new.self c.args.self.now.state d.number d.player inner.calls.items
    (map string_bytes inner.told.items) (map string_bytes c.keep_line.new.told.items) line c.in-Some.entry.now
    is.list is.at is.entry
    (c.keep_line.ensures ∙ ap (λ w. map string_bytes w ++ line) c.reserve.ensures.items)
    (marked c.peek.new.self was d.player c.in-Some.entry.now c.at-version.result c.world.result.now line
    same c.in-Some.ensures.place c.at-version.ensures.at c.world.ensures c.in_ok-hears.ensures)
    (ap (λ (i : Inner). state_of d.number d.player i.replica i.calls.items (map string_bytes i.told.items))
    c.deref_mut-inner.ensures.value ∙ ap (λ v. v.state) c.self.view_is)

pub invariant_of-self-2 : goal.invariant_of-self-2
invariant_of-self-2 g c =
    let j = g.J.HallName in
    let d = c.self.inside in
    let inner : Inner = c.deref_mut-inner.result.now in
    let was : Standing = inner.replica in
    let new : Standing = c.step.new.self in
    let e : Entry = c.in-Some.entry.now in
    let is = applies g c in
    let held : IsHeld j.cells j.loaded d.number d.player inner.traveller was =
    subst (λ (i : Inner). IsHeld j.cells j.loaded d.number d.player i.traveller i.replica)
    (sym c.deref_mut-inner.ensures.value) c.self.invariant in
    let before : State = world_at was.list was.at in
    let after : c.world-2.result.now ≡ step_or_same before c.change.result.now =
    c.world-2.ensures ∙ next-world was new e is ∙ ap (step_or_same before) (sym c.change.ensures.change) in
    let known : IfSome c.follow_change.new.traveller (IsFollower (world_at new.list new.at)) =
    subst (λ (w : State). IfSome c.follow_change.new.traveller (IsFollower w)) c.world-2.ensures
    (c.follow_change.ensures before (world-sound (take was.at was.list)) held.known after) in
    held-next j.cells j.loaded d.number d.player inner.traveller c.follow_change.new.traveller was new e
    held is known
