use Rattle.std.proofs.Common.{◌≡◌, length, drop}
use Rattle.mud_search.specs.inner.Boards.{offers}
use Rattle.mud_search.proofs.board.Board.follow.Given as goal

abbrev pub invariant-loop-step : goal.invariant-loop-step
invariant-loop-step l = record {
  whole : length l.self ≡ length l.fn.self;
  rest : offers l.label (drop l.step-index l.steps) l.self ≡ offers l.label l.steps l.fn.self;
}
