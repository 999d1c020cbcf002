use Rattle.std.proofs.Common.{inr}
use Rattle.mud_tests.proofs.Moments.{called}
use Rattle.mud_tests.proofs.disk.KnownDiskAppends.append.Goals as goal

pub returns-in_default-clause-crash : goal.returns-in_default-clause-crash
returns-in_default-clause-crash c =
    let s = c.args.self.now.store.now in
    let t = c.begin_call.new.self.store.now in
    called s.is_made s.synced.items s.unsynced.items t.is_made
    t.synced.items t.unsynced.items s.past.items t.past.items _ c.begin_call.ensures.past
    (λ bytes left. inr left)

pub returns-then-is_err-clause-crash : goal.returns-then-is_err-clause-crash
returns-then-is_err-clause-crash c =
    let s = c.args.self.now.store.now in
    let t = c.begin_call.new.self.store.now in
    called s.is_made s.synced.items s.unsynced.items t.is_made
    t.synced.items c.extend_from_slice.new.self.items s.past.items t.past.items _ c.begin_call.ensures.past
    (λ bytes left. inr left)

pub returns-then-eq-clause-crash : goal.returns-then-eq-clause-crash
returns-then-eq-clause-crash c =
    let s = c.args.self.now.store.now in
    let t = c.begin_call.new.self.store.now in
    called s.is_made s.synced.items s.unsynced.items t.is_made
    t.synced.items c.extend_from_slice.new.self.items s.past.items t.past.items _ c.begin_call.ensures.past
    (λ bytes left. inr left)

pub returns-else-eq-clause-crash : goal.returns-else-eq-clause-crash
returns-else-eq-clause-crash c =
    let s = c.args.self.now.store.now in
    let t = c.begin_call.new.self.store.now in
    called s.is_made s.synced.items s.unsynced.items t.is_made
    t.synced.items c.extend_from_slice.new.self.items s.past.items t.past.items _ c.begin_call.ensures.past
    (λ bytes left. inr left)
