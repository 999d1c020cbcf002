use Rattle.std.proofs.Common.{◌≡◌, ◌++◌, ◌∷◌, [], ◌+◌, ◌/◌, ◌%◌, ◌^◌, ◌<◌, ◌≤◌, ℕ, List, decimal}
use Rattle.std.proofs.Common.{append_assoc, sym, ap, ◌∙◌, arith}
use Rattle.std.proofs.lemmas.Fmt.{decimal_digit, decimal_step}
use Rattle.mud_session.proofs.wiring.+push_number.Goals.{then-number-ge10+in_ok-push_number, else-number-ge10}
use Rattle.mud_session.proofs.wiring.+push_number.Goals as goal

-- the last digit after the digits before it
last : (before was new : List ℕ) (digit n : ℕ) → new ≡ was ++ digit ∷ [] → was ≡ before ++ decimal (n / 10)
    → digit ≡ 48 + n % 10 → 10 ≤ n → n < 2 ^ 64 → new ≡ before ++ decimal n
last before was new digit n pushes counts is more fits =
    pushes ∙ ap (λ (l : List ℕ). l ++ digit ∷ []) counts ∙ append_assoc before (decimal (n / 10)) (digit ∷ [])
    ∙ ap (λ d. before ++ (decimal (n / 10) ++ d ∷ [])) is
    ∙ ap (λ (l : List ℕ). before ++ l) (sym (decimal_step n more fits))

-- the only digit
only : (before new : List ℕ) (digit n : ℕ) → new ≡ before ++ digit ∷ [] → digit ≡ 48 + n → n < 10
    → new ≡ before ++ decimal n
only before new digit n pushes is less =
    pushes ∙ ap (λ d. before ++ d ∷ []) is ∙ ap (λ (l : List ℕ). before ++ l) (sym (decimal_digit n less))

pub returns : goal.returns
returns t c =
    elim c.if-number-ge10.branch [
      | then-number-ge10+in_ok-push_number w ↦
          last c.args.out.now.items c.if-number-ge10.out.items c.push.new.self.items _ c.args.number
          c.in_ok-push.ensures.items (rw w.out-is w.in_ok-push_number.ensures) (omega arith) (omega arith) (omega arith)
      | else-number-ge10 w ↦
          only c.args.out.now.items c.push.new.self.items _ c.args.number
          (rw w.out-is at c.in_ok-push.ensures.items) (omega arith) (omega arith)
    ]
