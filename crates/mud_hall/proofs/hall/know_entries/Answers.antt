use Rattle.std.proofs.Common.{ℕ, List, take, sym, subst, arith}
use Rattle.std.specs.List.{AllByRecursion}
use Rattle.std.proofs.lemmas.List.{take_all}
use Rattle.mud_chron.specs.Entry.{Entry, IsEntry}
use Rattle.mud_hall.proofs.Lists.{take_snoc}
use Rattle.mud_hall.proofs.Keeping.{each-push}
use Rattle.mud_hall.proofs.hall.know_entries.Goals as goal

pub loop-entry-preserved : goal.loop-entry-preserved
loop-entry-preserved c =
    let i : ℕ = c.loop-entry.entry-index in
    let es : List Entry = c.args.entries.now in
    let e : Entry = c.entry-item.result in
    subst (AllByRecursion IsEntry) (sym (take_snoc es i e e (omega arith) c.entry-item.is))
    (each-push (take i es) e c.loop-entry.invariant c.desk-known.ensures.entry)

pub returns : goal.returns
returns c =
    subst (AllByRecursion IsEntry) (take_all c.loop-entry.entry-index c.args.entries.now (omega arith))
    c.loop-entry.invariant
