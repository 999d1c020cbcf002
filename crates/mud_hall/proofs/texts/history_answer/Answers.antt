use Rattle.std.proofs.Common.{ℕ, List, ◌++◌, ◌∙◌, ap}
use Rattle.std.specs.Prelude.{codes}
use Rattle.mud_chron.specs.inner.Texts.{written_text}
use Rattle.mud_hall.proofs.Endings.{behind, written-ends}
use Rattle.mud_hall.proofs.texts.history_answer.Goals as goal

pub without_last_line_end-requires : goal.without_last_line_end-requires
without_last_line_end-requires c =
    let b = behind (codes "history\n") (written_text c.args.history.now) (written-ends c.args.history.now) in (
      b.0,
      c.in_ok-write_history.ensures.ok
          ∙ ap (λ (l : List ℕ). l ++ written_text c.args.history.now) c.in_ok-text.ensures.ok ∙ b.1,
    )
