use Rattle.std.proofs.Common.{◌∙◌}
use Rattle.mud_journal.proofs.Disks.{begun, in_replace}
use Rattle.mud_journal.proofs.journal.write_anew.Goals as goal

pub returns-clause-holds : goal.returns-clause-holds
returns-clause-holds g c = λ had is count.
    begun (g.D.Appends.kept c.replace.new.self) had c.args.more.now c.args.count c.args.text.items
    c.deref.result.now count is (c.deref.ensures.value ∙ c.in_ok-append_entries.ensures) c.in_ok-replace.ensures.ok

pub returns-in_err-replace-clause-crash : goal.returns-in_err-replace-clause-crash
returns-in_err-replace-clause-crash g c = λ had is count.
    in_replace g.D.Appends.tears had c.args.more.now c.args.count c.args.text.items c.deref.result.now _ _ _ _
    c.replace.ensures.crash count is (c.deref.ensures.value ∙ c.in_ok-append_entries.ensures)

pub returns-clause-crash : goal.returns-clause-crash
returns-clause-crash g c = λ had is count.
    in_replace g.D.Appends.tears had c.args.more.now c.args.count c.args.text.items c.deref.result.now _ _ _ _
    c.replace.ensures.crash count is (c.deref.ensures.value ∙ c.in_ok-append_entries.ensures)
