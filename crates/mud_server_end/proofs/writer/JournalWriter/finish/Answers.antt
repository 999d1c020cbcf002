use Rattle.std.proofs.Common.{true, refl, sym, subst}
use Rattle.mud_journal.specs.Disk.{Holds}
use Rattle.mud_server_end.specs.JournalText.{IsWritten}
use Rattle.mud_server_end.proofs.Keeping.{unwritten}
use Rattle.mud_server_end.proofs.writer.JournalWriter.finish.Goals as goal

pub invariant_of-self : goal.invariant_of-self
invariant_of-self g c =
    let j = c.self.inside.journal in
    let holds : Holds (g.D.Appends.kept j.disk) c.self.inside.reader =
    subst (λ w. Holds w.kept w.entries) (sym c.self.view_is) c.in_ok-write.ensures.ok.1 in
    subst (λ k. IsWritten c.gather.new.self (g.D.Appends.kept k.disk) k.has_failed k.count) (sym c.fail.ensures)
    (unwritten (g.D.Appends.kept j.disk) c.self.inside.reader c.gather.new.self j.count true holds
    c.gather.ensures.gathered.begun refl)
