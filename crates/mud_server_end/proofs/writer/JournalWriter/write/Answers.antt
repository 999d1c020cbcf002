use Rattle.std.proofs.Common.{◌≡◌, ◌++◌, ◌+◌, List, length, true, false, refl, sym, ap, ◌∙◌, subst}
use Rattle.mud_chron.specs.Entry.{Entry}
use Rattle.mud_server_end.specs.JournalText.{IsWritten}
use Rattle.mud_journal.specs.declared.journal.Receipt.{Receipt}
use Rattle.mud_server_end.proofs.Keeping.{committed, receipted, unwritten}
use Rattle.mud_server_end.proofs.writer.JournalWriter.write.Goals as goal

pub invariant_of-self : goal.invariant_of-self
invariant_of-self g c =
    let j = c.self.inside.journal in
    let es : List Entry = c.self.inside.reader in
    let going : j.has_failed ≡ false = sym c.has_failed.ensures ∙ c.if-has_failed.false in
    committed _ c.commit.result (g.D.Appends.kept j.disk) (g.D.Appends.kept c.commit.new.self.disk) es c.read.new.self
    c.deref.result.now j.count c.commit.new.self.count c.commit.new.self.has_failed
    (c.self.invariant.whole going) (c.self.invariant.counted going)
    (c.in-Ok.ensures.ok ∙ ap (λ l. es ++ l) (sym c.deref.ensures.value)) c.commit.ensures.ok c.commit.ensures.count
    c.commit.ensures.going c.commit.ensures.fault c.commit.ensures.failed

pub invariant_of-self-in-Err : goal.invariant_of-self-in-Err
invariant_of-self-in-Err g c =
    let j = c.self.inside.journal in
    let es : List Entry = c.self.inside.reader in
    let going : j.has_failed ≡ false = sym c.has_failed.ensures ∙ c.if-has_failed.false in
    subst (λ k. IsWritten c.read.new.self (g.D.Appends.kept k.disk) k.has_failed k.count) (sym c.fail.ensures)
    (unwritten (g.D.Appends.kept j.disk) es c.read.new.self j.count true (c.self.invariant.whole going)
    c.read.ensures.longer refl)

pub returns-in-Ok-clause-ok : goal.returns-in-Ok-clause-ok
returns-in-Ok-clause-ok g c =
    let j = c.self.inside.journal in
    let es : List Entry = c.self.inside.reader in
    let going : j.has_failed ≡ false = sym c.has_failed.ensures ∙ c.if-has_failed.false in
    receipted (λ (r : Receipt _). r.up_to) c.commit.result (g.D.Appends.kept c.commit.new.self.disk) c.read.new.self
    c.commit.new.self.count (j.count + length c.deref.result.now) c.commit.new.self.has_failed
    (committed _ c.commit.result (g.D.Appends.kept j.disk) (g.D.Appends.kept c.commit.new.self.disk) es c.read.new.self
    c.deref.result.now j.count c.commit.new.self.count c.commit.new.self.has_failed
    (c.self.invariant.whole going) (c.self.invariant.counted going)
    (c.in-Ok.ensures.ok ∙ ap (λ l. es ++ l) (sym c.deref.ensures.value)) c.commit.ensures.ok c.commit.ensures.count
    c.commit.ensures.going c.commit.ensures.fault c.commit.ensures.failed)
    c.commit.ensures.going c.commit.ensures.count
