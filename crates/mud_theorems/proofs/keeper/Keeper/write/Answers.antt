use Rattle.std.proofs.Common.{◌≡◌, ◌≤◌, ◌++◌, List, false, sym, ap, ◌∙◌, subst, arith}
use Rattle.mud_chron.specs.Entry.{Entry}
use Rattle.mud_journal.specs.Disk.{Holds}
use Rattle.mud_theorems.specs.inner.Durable.{knower}
use Rattle.mud_theorems.proofs.Keeping.{committed, part_kept, unwritten, prefix_trans}
use Rattle.mud_theorems.proofs.keeper.Keeper.write.Goals as goal

pub raise-requires : goal.raise-requires
raise-requires g c =
    let i = c.self.invariant in
    let more : c.self.inside.journal.count ≤ c.len.result =
    omega (arith, c.len.ensures, c.in_ok-commit.ensures.count.0) in record {
      cell = i.2 ∙ sym c.requires;
      knows = (c.self.inside.journal.count, more, i.3);
    }

pub invariant_of-self-2 : goal.invariant_of-self-2
invariant_of-self-2 g c =
    let i = c.self.invariant in
    let j = c.self.inside.journal in
    let es : List Entry = c.self.inside.reader in
    let going : j.has_failed ≡ false = sym c.has_failed.ensures ∙ c.if-has_failed.false in
    let held = i.0.whole going in
    let read = c.in-Ok.ensures.ok ∙ ap (λ l. es ++ l) (sym c.deref.ensures.value) in
    let s = c.raise.ensures in (
      committed (g.D.Appends.kept j.disk) (g.D.Appends.kept c.commit.new.self.disk) es c.read.new.self
          c.deref.result.now j.count c.commit.new.self.count c.commit.new.self.has_failed held.0 held.1 read
          c.in_ok-commit.ensures.ok c.in_ok-commit.ensures.count.0,
      prefix_trans g.J.HallName.loaded es c.read.new.self i.1 c.read.ensures.longer,
      s.cell ∙ i.2,
      s.knows ∙ ap knower c.len.ensures,
    )

pub invariant_of-self-in_err-commit : goal.invariant_of-self-in_err-commit
invariant_of-self-in_err-commit g c =
    let i = c.self.invariant in
    let j = c.self.inside.journal in
    let es : List Entry = c.self.inside.reader in
    let going : j.has_failed ≡ false = sym c.has_failed.ensures ∙ c.if-has_failed.false in
    let held = i.0.whole going in
    let read = c.in-Ok.ensures.ok ∙ ap (λ l. es ++ l) (sym c.deref.ensures.value) in
    let e = c.in_err-commit.ensures in (
      part_kept (g.D.Appends.kept j.disk) (g.D.Appends.kept c.commit.new.self.disk) es c.read.new.self
          c.deref.result.now j.count c.commit.new.self.count c.commit.new.self.has_failed held.0 held.1 read
          e.fault e.same_count e.failed,
      prefix_trans g.J.HallName.loaded es c.read.new.self i.1 c.read.ensures.longer,
      i.2,
      i.3 ∙ ap knower (sym e.same_count),
    )

pub invariant_of-self : goal.invariant_of-self
invariant_of-self g c =
    let i = c.self.invariant in
    let j = c.self.inside.journal in
    let es : List Entry = c.self.inside.reader in
    let going : j.has_failed ≡ false = sym c.has_failed.ensures ∙ c.if-has_failed.false in
    let held = i.0.whole going in (
      unwritten (g.D.Appends.kept c.fail.new.self.disk) es c.read.new.self c.fail.new.self.count
          c.fail.new.self.has_failed (subst (λ k. Holds (g.D.Appends.kept k.disk) es) (sym c.fail.ensures) held.0)
          (ap (λ k. k.count) c.fail.ensures ∙ held.1) c.read.ensures.longer (ap (λ k. k.has_failed) c.fail.ensures),
      prefix_trans g.J.HallName.loaded es c.read.new.self i.1 c.read.ensures.longer,
      i.2,
      i.3 ∙ ap (λ k. knower k.count) (sym c.fail.ensures),
    )
