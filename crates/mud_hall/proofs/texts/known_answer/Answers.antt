use Rattle.std.proofs.Common.{ℕ, List, ◌++◌, ◌∙◌, ap}
use Rattle.std.specs.Prelude.{codes}
use Rattle.mud_chron.specs.Entry.{Entry}
use Rattle.mud_chron.specs.inner.Texts.{written_text}
use Rattle.mud_hall.proofs.Endings.{behind, written-ends}
use Rattle.mud_hall.proofs.texts.known_answer.Goals as goal

pub without_last_line_end-requires : goal.without_last_line_end-requires
without_last_line_end-requires c =
    let h : List Entry = c.args.replica.now.list in
    let b = behind (codes "history\n") (written_text h) (written-ends h) in (
      b.0,
      c.in_ok-write_text.ensures.ok ∙ ap (λ (l : List ℕ). l ++ written_text h) c.in_ok-text.ensures.ok ∙ b.1,
    )
