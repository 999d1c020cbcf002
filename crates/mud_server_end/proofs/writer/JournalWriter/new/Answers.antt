use Rattle.std.proofs.Common.{◌≡◌, sym, subst, ◌∙◌}
use Rattle.mud_journal.specs.Disk.{Holds}
use Rattle.mud_server_end.proofs.Keeping.{all_written}
use Rattle.mud_server_end.proofs.writer.JournalWriter.new.Goals as goal

pub invariant_of-result : goal.invariant_of-result
invariant_of-result g c =
    let named = c.with_name.ensures in
    all_written (g.D.Appends.kept c.with_name.result.disk) c.args.reader c.with_name.result.has_failed
    c.with_name.result.count
    (subst (λ d. Holds (g.D.Appends.kept d) c.args.reader) (sym named.disk) c.requires.holds)
    (named.count ∙ c.requires.count)
