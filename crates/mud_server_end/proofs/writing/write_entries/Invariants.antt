use Rattle.std.proofs.Common.{◌≡◌}
use Rattle.std.specs.Prelude.{string_bytes}
use Rattle.mud_chron.specs.inner.Texts.{written_text}
use Rattle.mud_server_end.proofs.Pieces.{IsOnWay, left}
use Rattle.mud_server_end.proofs.writing.write_entries.Given as goal

-- the lines of the first entries are written, or in the piece
abbrev pub invariant-loop-n : goal.invariant-loop-n
invariant-loop-n g l = record {
  history : l.history ≡ l.fn.history;
  way : IsOnWay l.fn.out.holds l.out.holds (written_text l.fn.history) (string_bytes l.text) (left l.n l.fn.history);
}
