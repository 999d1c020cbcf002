use Rattle.std.proofs.Common.{◌≡◌, ◌+◌, ◌<◌, ◌≤◌, List, [], length, set, sym, ◌∙◌, ap, subst, arith}
use Rattle.std.proofs.lemmas.List.{get_or_read}
use Rattle.std.specs.Prelude.{All, sum_by, count_by}
use Rattle.mud_world.specs.declared.limits.TheConstants.{MOST_COST}
use Rattle.mud_roads.specs.declared.label.Step.{Step}
use Rattle.mud_search.specs.declared.slot.Slot.{Slot}
use Rattle.mud_search.specs.Memory.{IsKept}
use Rattle.mud_search.specs.inner.Boards.{label_at, settle, board_of, slot_of, potential}
use Rattle.mud_search.specs.Tasks.{IsDone}
use Rattle.mud_search.specs.inner.Once.{IsInOrder, is_unfinished}
use Rattle.mud_search.proofs.Frontiers.{put-bound, put-steps, put-kept, put-lighter, put-done, put-once}
use Rattle.mud_search.proofs.frontier.Frontier.settle.Goals as goal

pub settle-requires-clause-bound : goal.settle-requires-clause-bound
settle-requires-clause-bound g c l e =
    let boards = c.self.inside.boards.items in
    let m = c.args.task.now.member in
    let h : m < length boards = omega (arith, c.self.inside.boards.ok.0) in
    let is : c.index_mut.result.now ≡ board_of boards m =
    get_or_read boards m c.index_mut.result.now h c.index_mut.ensures.value [] in
    put-bound g.J.Job.world g.J.Job.travellers boards c.self.invariant m c.args.task.now.room h
    c.args.steps.now c.requires.steps l
    (sym (ap (λ b. label_at b c.args.task.now.room) is) ∙ e)

pub settle-requires-clause-steps : goal.settle-requires-clause-steps
settle-requires-clause-steps g c =
    let boards = c.self.inside.boards.items in
    let m = c.args.task.now.member in
    let h : m < length boards = omega (arith, c.self.inside.boards.ok.0) in
    let is : c.index_mut.result.now ≡ board_of boards m =
    get_or_read boards m c.index_mut.result.now h c.index_mut.ensures.value [] in
    let P : List Slot → Type 0 = λ b. All (λ (s : Step). (s.to < length b) × (s.cost ≤ MOST_COST)) c.args.steps.now in
    subst P (sym is)
    (put-steps g.J.Job.world g.J.Job.travellers boards c.self.invariant m c.args.task.now.room h
    c.args.steps.now c.requires.steps)

pub invariant_of-self : goal.invariant_of-self
invariant_of-self g c =
    let boards = c.self.inside.boards.items in
    let m = c.args.task.now.member in
    let h : m < length boards = omega (arith, c.self.inside.boards.ok.0) in
    let is : c.index_mut.result.now ≡ board_of boards m =
    get_or_read boards m c.index_mut.result.now h c.index_mut.ensures.value [] in
    let P : List Slot → Type 0 = λ b. IsKept g.J.Job.world g.J.Job.travellers (set boards m b) in
    subst P (sym
    (c.if-settle.ensures.done.1 ∙ ap (settle c.args.task.now.room c.args.task.now.label c.args.steps.now) is))
    (put-kept g.J.Job.world g.J.Job.travellers boards c.self.invariant m c.args.task.now.room h c.args.steps.now
    c.requires.steps c.args.task.now.label
    (sym (ap (λ b. label_at b c.args.task.now.room) is) ∙ c.if-settle.ensures.done.0))

pub returns-then-settle-clause-less : goal.returns-then-settle-clause-less
returns-then-settle-clause-less g c =
    let boards = c.self.inside.boards.items in
    let m = c.args.task.now.member in
    let h : m < length boards = omega (arith, c.self.inside.boards.ok.0) in
    let is : c.index_mut.result.now ≡ board_of boards m =
    get_or_read boards m c.index_mut.result.now h c.index_mut.ensures.value [] in
    let P : List Slot → Type 0 = λ b. potential (set boards m b) < potential boards in
    rw (← c.self.view_is)
    (λ e. subst P
    (sym (c.if-settle.ensures.done.1
    ∙ ap (settle c.args.task.now.room c.args.task.now.label c.args.steps.now) is))
    (put-lighter g.J.Job.world g.J.Job.travellers boards c.self.invariant m c.args.task.now.room h c.args.steps.now
    c.requires.steps c.args.task.now.label e))

pub returns-then-settle-clause-done : goal.returns-then-settle-clause-done
returns-then-settle-clause-done g c e =
    let boards = c.self.inside.boards.items in
    let m = c.args.task.now.member in
    let h : m < length boards = omega (arith, c.self.inside.boards.ok.0) in
    let is : c.index_mut.result.now ≡ board_of boards m =
    get_or_read boards m c.index_mut.result.now h c.index_mut.ensures.value [] in
    let P : List Slot → Type 0 =
    λ b. IsDone (slot_of boards) (slot_of (set boards m b)) c.args.task.now c.args.steps.now in
    rw (← c.self.view_is)
    (subst P (sym
    (c.if-settle.ensures.done.1 ∙ ap (settle c.args.task.now.room c.args.task.now.label c.args.steps.now) is))
    (put-done g.J.Job.world g.J.Job.travellers boards c.self.invariant m c.args.task.now.room h c.args.steps.now
    c.requires.steps c.args.task.now.label
    (sym (ap (λ b. label_at b c.args.task.now.room) is) ∙ c.if-settle.ensures.done.0)))

pub returns-then-settle-clause-once : goal.returns-then-settle-clause-once
returns-then-settle-clause-once g c =
    let boards = c.self.inside.boards.items in
    let m = c.args.task.now.member in
    let h : m < length boards = omega (arith, c.self.inside.boards.ok.0) in
    let is : c.index_mut.result.now ≡ board_of boards m =
    get_or_read boards m c.index_mut.result.now h c.index_mut.ensures.value [] in
    let P : List Slot → Type 0 =
    λ b. IsInOrder (slot_of (set boards m b))
    × (sum_by (count_by is_unfinished) (set boards m b) + 1 ≡ sum_by (count_by is_unfinished) boards) in
    rw (← c.self.view_is)
    (λ order first. subst P
    (sym (c.if-settle.ensures.done.1
    ∙ ap (settle c.args.task.now.room c.args.task.now.label c.args.steps.now) is))
    (put-once g.J.Job.world g.J.Job.travellers boards c.self.invariant m c.args.task.now.room h c.args.steps.now
    c.requires.steps c.args.task.now.label order first))
