use Rattle.std.proofs.Common.{rules, inr}
use Rattle.mud_tests.proofs.Moments.{called, same, synced}
use Rattle.mud_tests.proofs.disk.KnownDiskAppends.sync.Goals as goal

pub returns-then-ne-clause-crash : goal.returns-then-ne-clause-crash
returns-then-ne-clause-crash c =
    let s = c.args.self.now.store.now in
    let t = c.begin_call.new.self.store.now in
    called s.is_made s.synced.items s.unsynced.items t.is_made
    t.synced.items t.unsynced.items s.past.items t.past.items _ c.begin_call.ensures.past
    (λ bytes left. inr (same s.is_made t.is_made s.synced.items
    t.synced.items s.unsynced.items t.unsynced.items bytes (search rules) (search rules) (search rules) left))

pub returns-then-is_err-clause-crash : goal.returns-then-is_err-clause-crash
returns-then-is_err-clause-crash c =
    let s = c.args.self.now.store.now in
    let t = c.begin_call.new.self.store.now in
    called s.is_made s.synced.items s.unsynced.items t.is_made
    c.extend_from_slice.new.self.items t.unsynced.items s.past.items t.past.items _ c.begin_call.ensures.past
    (λ bytes left. inr (same s.is_made t.is_made s.synced.items
    c.extend_from_slice.new.self.items s.unsynced.items t.unsynced.items bytes (search rules) (search rules)
    (search rules) left))

pub returns-clause-crash : goal.returns-clause-crash
returns-clause-crash c =
    let s = c.args.self.now.store.now in
    let t = c.begin_call.new.self.store.now in
    called s.is_made s.synced.items s.unsynced.items t.is_made
    c.extend_from_slice.new.self.items c.clear.new.self.items s.past.items t.past.items _ c.begin_call.ensures.past
    (λ bytes left. inr (synced s.is_made t.is_made s.synced.items s.unsynced.items c.extend_from_slice.new.self.items
    c.clear.new.self.items bytes (search rules) (search rules) (search rules) left))
