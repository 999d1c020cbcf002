use Rattle.mud_diff.proofs.Deciding.{on_ok}
use Rattle.mud_diff.proofs.Found.{next_number}
use Rattle.mud_diff.proofs.comparing.note_all.Goals as goal

pub returns : goal.returns
returns c =
    on_ok c.note-10.result
    (λ found. next_number c.args.old.now c.args.new.now c.args.number c.note-10.new.found.items found) c.note-10.ensures
