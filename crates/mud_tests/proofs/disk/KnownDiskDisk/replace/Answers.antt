use Rattle.std.proofs.Common.{rules, true, inl, inr}
use Rattle.mud_tests.proofs.Moments.{called, same, replaced}
use Rattle.mud_tests.proofs.disk.KnownDiskDisk.replace.Goals as goal

pub returns-in_default-clause-crash : goal.returns-in_default-clause-crash
returns-in_default-clause-crash c =
    let s = c.args.self.now.store.now in
    let t = c.begin_call.new.self.store.now in
    called s.is_made s.synced.items s.unsynced.items t.is_made
    t.synced.items t.unsynced.items s.past.items t.past.items _ c.begin_call.ensures.past
    (λ bytes left. inl (same s.is_made t.is_made s.synced.items
    t.synced.items s.unsynced.items t.unsynced.items bytes (search rules) (search rules) (search rules) left))

pub returns-then-eq-clause-crash : goal.returns-then-eq-clause-crash
returns-then-eq-clause-crash c =
    let s = c.args.self.now.store.now in
    let t = c.begin_call.new.self.store.now in
    called s.is_made s.synced.items s.unsynced.items t.is_made
    t.synced.items t.unsynced.items s.past.items t.past.items _ c.begin_call.ensures.past
    (λ bytes left. inl (same s.is_made t.is_made s.synced.items
    t.synced.items s.unsynced.items t.unsynced.items bytes (search rules) (search rules) (search rules) left))

pub returns-in_default-from_slice-clause-crash : goal.returns-in_default-from_slice-clause-crash
returns-in_default-from_slice-clause-crash c =
    let s = c.args.self.now.store.now in
    let t = c.begin_call.new.self.store.now in
    called s.is_made s.synced.items s.unsynced.items t.is_made
    t.synced.items t.unsynced.items s.past.items t.past.items _ c.begin_call.ensures.past
    (λ bytes left. inl (same s.is_made t.is_made s.synced.items
    t.synced.items s.unsynced.items t.unsynced.items bytes (search rules) (search rules) (search rules) left))

pub returns-then-eq-2-clause-crash : goal.returns-then-eq-2-clause-crash
returns-then-eq-2-clause-crash c =
    let s = c.args.self.now.store.now in
    let t = c.begin_call.new.self.store.now in
    called s.is_made s.synced.items s.unsynced.items true
    c.in-Ok.made.items _ s.past.items t.past.items _ c.begin_call.ensures.past
    (λ bytes left. inr (replaced c.in-Ok.made.items _ c.args.bytes.now bytes (search rules) (search rules) left))

pub returns-clause-crash : goal.returns-clause-crash
returns-clause-crash c =
    let s = c.args.self.now.store.now in
    let t = c.begin_call.new.self.store.now in
    called s.is_made s.synced.items s.unsynced.items true
    c.in-Ok.made.items _ s.past.items t.past.items _ c.begin_call.ensures.past
    (λ bytes left. inr (replaced c.in-Ok.made.items _ c.args.bytes.now bytes (search rules) (search rules) left))
