use Rattle.std.proofs.Common.{◌+◌, drop, subst}
use Rattle.mud_chron.specs.Replay.{changes_of, AreLegal}
use Rattle.mud_undo.proofs.Built.{split-at, when-false}
use Rattle.mud_undo.proofs.site.Site.put_all.Goals as goal

pub returns-then-not-branch-clause-put : goal.returns-then-not-branch-clause-put
returns-then-not-branch-clause-put c =
    λ legal. when-false _ _ c.in_ok-put.field-0 c.in_ok-put.ensures.put c.if-not-branch.true
    (drop (c.loop-entry.entry-index + 1) c.args.part.now)
    (subst (λ l. AreLegal (changes_of l))
    (split-at c.args.self.now.entries.items c.loop-entry.self.entries.items c.args.part.now c.loop-entry.entry-index
    c.entry-item.result c.loop-entry-test.true c.loop-entry.invariant.is c.entry-item.is)
    legal)
