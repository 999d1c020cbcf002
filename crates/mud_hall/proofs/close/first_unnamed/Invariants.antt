use Rattle.std.proofs.Common.{◌≡◌, take}
use Rattle.std.specs.Prelude.{All}
use Rattle.mud_hall.specs.Settlement.{HasNumber}
use Rattle.mud_hall.proofs.close.first_unnamed.Given as goal

abbrev pub invariant-loop-i : goal.invariant-loop-i
invariant-loop-i g l = record {
  same : l.new ≡ l.fn.new;
  all : All (λ e. HasNumber l.desks e.desk) (take l.i l.fn.new);
}
