use Rattle.std.proofs.Common.{◌+◌, List, sym}
use Rattle.std.specs.Prelude.{string_bytes}
use Rattle.std.proofs.lemmas.Result.{on_ok_weaker}
use Rattle.mud_chron.specs.Entry.{Entry}
use Rattle.mud_chron.specs.Text.{entry_line, line_feed}
use Rattle.mud_row.proofs.Lines.{line_written, line_longer}
use Rattle.mud_row.proofs.writing.write_line.Goals as goal

pub returns-clause-ok : goal.returns-clause-ok
returns-clause-ok c =
    let es : List Entry = c.args.pass.now.list in
    on_ok_weaker c.write_entry.result
    (λ is. line_written es c.args.n c.in-Some.entry.now (string_bytes c.args.out.now)
    (string_bytes c.write_entry.new.out)
    (sym c.in-Some.ensures.entry) is)
    c.write_entry.ensures.ok

pub returns-clause-longer : goal.returns-clause-longer
returns-clause-longer c =
    on_ok_weaker c.write_entry.result
    (line_longer (string_bytes c.args.out.now) (string_bytes c.write_entry.new.out)
    (entry_line (c.args.n + 1) c.in-Some.entry.now) line_feed)
    c.write_entry.ensures.ok
