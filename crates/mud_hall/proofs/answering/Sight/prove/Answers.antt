use Rattle.std.proofs.Common.{◌≡◌, ◌++◌, Option, refl, sym, subst}
use Rattle.std.specs.Prelude.{codes, string_bytes}
use Rattle.std.specs.Option.{IsSomeAnd}
use Rattle.mud_cert.specs.Certificate.{Certificate}
use Rattle.mud_cert.specs.Text.{cert_text}
use Rattle.mud_hall.proofs.answering.Sight.prove.Goals as goal

pub returns-clause-proven : goal.returns-clause-proven
returns-clause-proven g c =
    let proves : Option Certificate → Type 0 =
    λ o. IsSomeAnd o (λ k. string_bytes c.in_ok-text-in-Some.text ++ codes "\n" ≡ codes "proof\n" ++ cert_text k) in (
      c.in_ok-answer.answer,
      c.in_ok-answer.ensures.guided,
      (subst proves (sym c.in-Some.is) c.in_ok-text-in-Some.ensures, refl),
    )
