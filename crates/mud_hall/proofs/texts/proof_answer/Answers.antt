use Rattle.std.proofs.Common.{ℕ, List, ◌++◌, ◌∙◌, ap}
use Rattle.std.specs.Prelude.{codes}
use Rattle.mud_cert.specs.Text.{cert_text}
use Rattle.mud_hall.proofs.Endings.{behind}
use Rattle.mud_hall.proofs.texts.proof_answer.Goals as goal

pub without_last_line_end-requires : goal.without_last_line_end-requires
without_last_line_end-requires c =
    let b = behind (codes "proof\n") (cert_text c.args.cert.now) (c.ends_with_lf.ensures c.args.cert.now) in (
      b.0,
      c.in_ok-write.ensures.done ∙ ap (λ (l : List ℕ). l ++ cert_text c.args.cert.now) c.in_ok-text.ensures.ok
          ∙ b.1,
    )
