use Rattle.std.proofs.Common.{◌≡◌, ◌≤◌, ◌*◌, take}
use Rattle.std.specs.Prelude.{sum_by, count_by}
use Rattle.mud_search.specs.Slots.{is_waiting, is_held}
use Rattle.mud_search.proofs.frontier.Frontier.rest.Given as goal

abbrev pub invariant-loop-board : goal.invariant-loop-board
invariant-loop-board g l = record {
  waiting : l.waiting ≡ sum_by (count_by is_waiting) (take l.board-index l.board-items);
  held : l.held ≡ sum_by (count_by is_held) (take l.board-index l.board-items);
  few : (l.waiting ≤ 4294967296 * l.board-index) × (l.held ≤ 4294967296 * l.board-index);
}
