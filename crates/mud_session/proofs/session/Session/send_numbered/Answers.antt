use Rattle.std.proofs.Common.{◌≡◌, ◌<◌, ◌^◌, ◌++◌, ℕ, List, decimal, append_assoc, ap, ◌∙◌, subst, arith}
use Rattle.std.specs.Prelude.{OnOk, codes}
use Rattle.mud_session.specs.State.{SessionState}
use Rattle.mud_session.specs.Session.{wire_text, with_version}
use Rattle.mud_session.specs.inner.TurnTexts.{sends}
use Rattle.mud_session.proofs.Sending.{sends_twice}
use Rattle.mud_session.proofs.Widening.{numbered_wide}
use Rattle.mud_session.proofs.session.Session.send_numbered.Goals as goal

-- a text is sent after its number
numbered : (was a b c : SessionState) (v : ℕ) (text : List ℕ) → v < 2 ^ 64 → a ≡ sends was (codes "[")
    → b ≡ sends a (decimal v) → c ≡ sends b (codes "] ")
    → sends c (wire_text text) ≡ sends was (wire_text (with_version v text))
numbered was a b c v text fits opens counts closes =
    let digits : List ℕ = decimal v in
    ap (λ (s : SessionState). sends s (wire_text text))
    (closes ∙ ap (λ (s : SessionState). sends s (codes "] "))
    (counts ∙ ap (λ (s : SessionState). sends s digits) opens ∙ sends_twice was (codes "[") digits)
    ∙ sends_twice was (codes "[" ++ digits) (codes "] "))
    ∙ sends_twice was (codes "[" ++ digits ++ codes "] ") (wire_text text)
    ∙ ap (sends was) (numbered_wide v text fits)

pub returns : goal.returns
returns c =
    let was : SessionState = c.args.self.now in
    let with_out : List ℕ → SessionState =
    λ o. record { terminal = c.self.inside.terminal; has_ended = c.self.inside.has_ended; out = o } in
    let P : SessionState → Type 0 = λ s. OnOk c.send.result (c.send.new.self ≡ s) in
    let out : List ℕ = c.push_number.new.out.items in
    subst P
    (numbered was (with_out c.push.new.self.items) (with_out out) (with_out c.push-3.new.self.items) c.args.version
    c.args.text.now (omega arith)
    (ap with_out (c.in_ok-push.ensures.items ∙ ap (λ (l : List ℕ). l ++ codes "[") c.in_ok-reserve.ensures.items)
    ∙ ap (λ (s : SessionState). sends s (codes "[")) c.self.view_is)
    (ap with_out c.in_ok-push_number.ensures)
    (ap with_out (c.in_ok-push-3.ensures.items ∙ ap (λ (l : List ℕ). l ++ codes " ") c.in_ok-push-2.ensures.items
    ∙ append_assoc out (codes "]") (codes " "))))
    c.send.ensures
