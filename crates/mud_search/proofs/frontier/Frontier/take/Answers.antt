use Rattle.std.proofs.Common.{◌≡◌, ◌<◌, List, [], length, set, refl, sym, ◌∙◌, ap, subst, arith}
use Rattle.std.proofs.lemmas.List.{get_or_read}
use Rattle.mud_search.specs.declared.slot.Slot.{Slot}
use Rattle.mud_search.specs.declared.slot.Slot.TheVariants.{Waiting, Held}
use Rattle.mud_search.specs.Rooms.{slot_in}
use Rattle.mud_search.specs.Memory.{IsKept}
use Rattle.mud_search.specs.inner.Boards.{board_of, slot_of}
use Rattle.mud_search.specs.Slots.{label_of}
use Rattle.mud_search.proofs.Firsts.{waiting-member}
use Rattle.mud_search.proofs.Faithful.{labelled-within}
use Rattle.mud_search.proofs.Frontiers.{frontier-relabelled, slot-changed}
use Rattle.mud_search.proofs.frontier.Frontier.take.Given.{Over}
use Rattle.mud_search.proofs.frontier.Frontier.take.Goals.{In_ok-task}
use Rattle.mud_search.proofs.frontier.Frontier.take.Goals as goal

-- the taken room waits, and belongs to a member
taken_waits : (g : Over) (c : In_ok-task g)
    → (slot_of c.self.inside.boards.items c.in_ok-task.task.member c.in_ok-task.task.room
    ≡ Waiting c.in_ok-task.task.label) × (c.in_ok-task.task.member < length c.self.inside.boards.items)
taken_waits g c =
    let t = c.in_ok-task.task in
    let here = ap (λ f. slot_in f t.member t.room) c.self.view_is ∙ c.in_ok-task.ensures.some.is_waiting in
    (here, waiting-member c.self.inside.boards.items t.member t.room t.label here)

pub index_mut-requires : goal.index_mut-requires
index_mut-requires g c =
    let waits = taken_waits g (goal.at.index_mut-requires g c).In_ok-task in
    omega (arith, c.self.inside.boards.ok.0)

pub mark-requires : goal.mark-requires
mark-requires g c =
    let boards = c.self.inside.boards.items in
    let t = c.in_ok-task.task in
    let waits = taken_waits g (goal.at.mark-requires g c).In_ok-task in
    let is = get_or_read boards t.member c.index_mut.result.now waits.1 c.index_mut.ensures.value [] in
    let P : List Slot → Type 0 = λ b. t.room < length b in
    subst P (sym is) (labelled-within (board_of boards t.member) t.room t.label (ap label_of waits.0))

pub invariant_of-self : goal.invariant_of-self
invariant_of-self g c =
    let boards = c.self.inside.boards.items in
    let t = c.in_ok-task.task in
    let waits = taken_waits g (goal.at.invariant_of-self g c).In_ok-task in
    let is = get_or_read boards t.member c.index_mut.result.now waits.1 c.index_mut.ensures.value [] in
    let P : List Slot → Type 0 = λ b. IsKept g.J.Job.world g.J.Job.travellers (set boards t.member b) in
    subst P (sym (c.mark.ensures ∙ ap (λ b. set b t.room (Held t.label)) is))
    (frontier-relabelled g.J.Job.world g.J.Job.travellers boards c.self.invariant t.member t.room
    (Held t.label) t.label waits.1 (ap label_of waits.0) refl (λ k e. cc))

pub returns-clause-some : goal.returns-clause-some
returns-clause-some g c =
    let boards = c.self.inside.boards.items in
    let t = c.in_ok-task.task in
    let waits = taken_waits g (goal.at.returns-clause-some g c).In_ok-task in
    let is = get_or_read boards t.member c.index_mut.result.now waits.1 c.index_mut.ensures.value [] in (
      c.in_ok-task.ensures.some,
      rw (← c.self.view_is)
          (slot-changed boards t.member t.room (Held t.label) t.label c.mark.new.self waits.1 (ap label_of waits.0)
          (c.mark.ensures ∙ ap (λ b. set b t.room (Held t.label)) is)),
    )

pub returns-clause-member : goal.returns-clause-member
returns-clause-member g c =
    let waits = taken_waits g (goal.at.returns-clause-member g c).In_ok-task in
    omega (arith, c.self.invariant.count)
