use Rattle.std.proofs.Common.{◌≡◌, ◌∙◌, length, sym, subst, arith}
use Rattle.mud_hall.specs.Settlement.{IsGathered}
use Rattle.mud_journal.specs.Disk.{Holds}
use Rattle.mud_server_end.proofs.Keeping.{prefix_trans, all_there}
use Rattle.mud_server_end.proofs.ending.settle_group.Goals as goal

pub returns-clause-journaled : goal.returns-clause-journaled
returns-clause-journaled g c =
    let loaded = g.J.HallName.loaded in
    let list = c.finish.new.self.entries in
    let history = c.in_ok-history.history in
    let long : length history ≡ length list = omega arith in
    let made : IsGathered loaded c.args.desks.items history =
    subst (λ ds. IsGathered loaded ds history) c.finish.ensures.same c.in_ok-history.ensures.settled.gathered in
    let begun = prefix_trans loaded c.in_ok-writer.writer.entries list c.in_ok-writer.ensures c.finish.ensures.longer in
    subst (λ k. Holds k history) (sym c.into_journal.ensures.kept)
    (all_there loaded list history c.args.desks.items c.finish.new.self.kept begun c.in_ok-finish.ensures.gathered made
    long c.in_ok-finish.ensures.holds)

pub returns-clause-count : goal.returns-clause-count
returns-clause-count g c =
    let long : length c.in_ok-history.history ≡ length c.finish.new.self.entries = omega arith in
    c.into_journal.ensures.count c.in_ok-finish.ensures.going ∙ sym long
