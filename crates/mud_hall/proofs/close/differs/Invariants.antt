use Rattle.std.proofs.Common.{◌≡◌, ◌≤◌, length}
use Rattle.mud_hall.specs.Settlement.{first_apart, versions_by}
use Rattle.mud_hall.proofs.Apart.{left}
use Rattle.mud_hall.proofs.close.differs.Given as goal

abbrev pub invariant-loop-i : goal.invariant-loop-i
invariant-loop-i l = record {
  same : l.new ≡ l.fn.new;
  rest : left l.number l.first l.i l.next l.calls l.fn.new
      ≡ first_apart l.calls (versions_by l.number l.first l.fn.new);
  within : l.next ≤ length l.calls;
}
