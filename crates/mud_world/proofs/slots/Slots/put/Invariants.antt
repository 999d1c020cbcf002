use Rattle.std.proofs.Common.{◌≡◌, length}
use Rattle.mud_world.specs.inner.Slots.{entries_of}
use Rattle.mud_world.proofs.slots.Slots.put.Given as goal

-- the slots so far are one for each number, with the records of before
abbrev pub invariant-loop : goal.invariant-loop
invariant-loop l = record {
  same : entries_of l.self-inside.slots.items ≡ entries_of l.initial.self-inside.slots.items;
  count : length l.self-inside.slots.items ≡ l.counter;
}
