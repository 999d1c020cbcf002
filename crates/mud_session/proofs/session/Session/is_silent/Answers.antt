use Rattle.std.proofs.Common.{◌≡◌, ◌≢◌, ◌==◌, ℕ, true, false, List, [], ◌∷◌, length, refl, sym, ap, subst, ◌∙◌, arith}
use Rattle.std.proofs.lemmas.Bool.Decides.{nat_tests}
use Rattle.mud_session.specs.State.{SessionState}
use Rattle.mud_session.proofs.session.Session.is_silent.Goals as goal

none : (bs : List ℕ) (len : ℕ) → len ≡ length bs → true ≡ (len == 0) → bs ≡ []
none [] len same is = refl
none (b ∷ bs) len same is = absurd (grind (arith, nat_tests, same, is))

some : (bs : List ℕ) (len : ℕ) → len ≡ length bs → false ≡ (len == 0) → bs ≢ []
some bs len same is empty =
    let zero : length bs ≡ 0 = ap length empty in absurd (grind (arith, nat_tests, same, is, zero))

pub returns-clause-silent : goal.returns-clause-silent
returns-clause-silent c when =
    let out = c.self.inside.out in
    subst (λ (s : SessionState). s.out ≡ []) c.self.view_is
    (none out.items _ out.ok.0 (sym when ∙ c.is_empty.ensures))

pub returns-clause-waits : goal.returns-clause-waits
returns-clause-waits c when =
    let out = c.self.inside.out in
    subst (λ (s : SessionState). s.out ≢ []) c.self.view_is
    (some out.items _ out.ok.0 (sym when ∙ c.is_empty.ensures))
