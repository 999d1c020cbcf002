use Rattle.std.proofs.Common.{◌≤◌, ℕ, List, drop, Some, None, sym, ap, arith, ltb}
use Rattle.std.proofs.lemmas.Bool.{cond-false, le-ltb}
use Rattle.mud_key.specs.declared.limits.TheConstants.{AMOUNTS}
use Rattle.mud_cert.specs.inner.Reader.{digits_on}
use Rattle.mud_cert.proofs.Digits.{grows}
use Rattle.mud_cert.proofs.numbers.digits_on.Goals as goal

pub returns-then-number-ge-AMOUNTS : goal.returns-then-number-ge-AMOUNTS
returns-then-number-ge-AMOUNTS c =
    let all : ℕ × List ℕ = digits_on c.args.start c.args.bytes.now in
    let le : AMOUNTS ≤ all.0 = omega (
      arith,
      grows c.loop-i.number (drop c.loop-i.i c.args.bytes.now),
      ap (λ (p : ℕ × List ℕ). p.0) c.loop-i.invariant.same,
      c.if-number-ge-AMOUNTS.true,
    ) in
    sym (cond-false (ltb all.0 AMOUNTS) (Some all) None (le-ltb all.0 AMOUNTS le))
