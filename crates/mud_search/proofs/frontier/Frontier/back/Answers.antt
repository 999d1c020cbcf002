use Rattle.std.proofs.Common.{◌≡◌, ◌<◌, [], length, arith}
use Rattle.std.proofs.lemmas.List.{get_or_read}
use Rattle.mud_search.specs.inner.Boards.{board_of}
use Rattle.mud_search.proofs.Frontiers.{frontier-released}
use Rattle.mud_search.proofs.frontier.Frontier.back.Goals as goal

pub invariant_of-self : goal.invariant_of-self
invariant_of-self g c =
    let boards = c.self.inside.boards.items in
    let m = c.args.task.now.member in
    let h : m < length boards = omega (arith, c.self.inside.boards.ok.0) in
    let is : c.index_mut.result.now ≡ board_of boards m =
    get_or_read boards m c.index_mut.result.now h c.index_mut.ensures.value [] in
    frontier-released g.J.Job.world g.J.Job.travellers boards c.self.invariant m c.args.task.now.room
    c.args.task.now.label c.release.new.self h c.release.result
    (rw is at c.release.ensures.held) (rw is at c.release.ensures.other)
