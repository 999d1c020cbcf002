use Rattle.std.proofs.Common.{ℕ, refl, codes, drop, inr, arith, below_more}
use Rattle.std.proofs.lemmas.List.{take_rest}
use Rattle.std.proofs.lemmas.Bool.Decides.{Decides-eqb}
use Rattle.std.proofs.lemmas.Slice.Eq.{starts_is}
use Rattle.mud_web.specs.Parts.{EndsHead}
use Rattle.mud_web.proofs.body.head_of.Goals as goal

pub loop-at-preserved : goal.loop-at-preserved
loop-at-preserved c =
    below_more (λ (k : ℕ). ¬ (EndsHead (drop k c.args.answer.now))) c.loop-at.at c.loop-at.invariant
    (λ ends. absurd (cc (
      (starts_is Decides-eqb (drop c.loop-at.at c.args.answer.now) (codes "\r\n\r\n")
          c.starts_with.result
          (rw (take_rest c.args.answer.now c.loop-at.at) at c.starts_with.ensures.value)).1 ends.0 ends.1,
      c.if-starts_with.false,
    )))

pub returns : goal.returns
returns c = inr (λ k h. c.loop-at.invariant k (omega arith), refl)
