-- The numbers that pass a test after an object is removed.
use Rattle.std.proofs.Common.{◌≡◌, ◌≢◌, ℕ, ◌+◌, Bool, true, false, cond, List, [], ◌∷◌, Some, refl, sym, ◌∙◌, ap, arith}
use Rattle.std.specs.Prelude.{nat_eq, not}
use Rattle.std.specs.Map.{lookup, remove_entry}
use Rattle.std.proofs.lemmas.Bool.{eqb-true, eqb-false, eq-eqb}
use Rattle.mud_world.specs.declared.record.Record.{Record}
use Rattle.mud_world.specs.State.{State, record_at}
use Rattle.mud_world.specs.Sound.{IsRising}
use Rattle.mud_world.specs.inner.Fields.{without_object}
use Rattle.mud_world.specs.Numbers.{without}
use Rattle.mud_world.proofs.Records.{bool_cases}
use Rattle.mud_world.proofs.Numbering.{passing, passing_by, found_here, found_past, without-below, without-other}

-- ---- the numbers that pass a test
remove_here : (n : ℕ) (e : ℕ × Record) (es : List (ℕ × Record)) → nat_eq n e.0 ≡ true
    → remove_entry (nat_eq n) (e ∷ es) ≡ es
remove_here n e es here = ap (λ b. cond b es (e ∷ remove_entry (nat_eq n) es)) here

remove_past : (n : ℕ) (e : ℕ × Record) (es : List (ℕ × Record)) → nat_eq n e.0 ≡ false
    → remove_entry (nat_eq n) (e ∷ es) ≡ e ∷ remove_entry (nat_eq n) es
remove_past n e es past = ap (λ b. cond b es (e ∷ remove_entry (nat_eq n) es)) past

pub passing-skip : (test : Record → Bool) (n : ℕ) (old : Record) (es : List (ℕ × Record))
    → lookup (nat_eq n) es ≡ Some old → test old ≡ false → passing test (remove_entry (nat_eq n) es) ≡ passing test es
passing-skip test n old [] at was = refl
passing-skip test n old (e ∷ es) at was =
    bool_cases (nat_eq n e.0)
    (λ here. ap (passing test) (remove_here n e es here)
    ∙ sym (passing_by test e es false (ap test (found_here n old e es here at) ∙ was)))
    (λ past.
    ap (passing test) (remove_past n e es past)
    ∙ passing_by test e (remove_entry (nat_eq n) es) (test e.1) refl
    ∙ ap (λ v. cond (test e.1) (e.0 ∷ v) v) (passing-skip test n old es (found_past n old e es past at) was)
    ∙ sym (passing_by test e es (test e.1) refl))

pub passing-drop : (test : Record → Bool) (n low high : ℕ) (old : Record) (es : List (ℕ × Record))
    → IsRising low es high → lookup (nat_eq n) es ≡ Some old → test old ≡ true
    → passing test (remove_entry (nat_eq n) es) ≡ without n (passing test es)
passing-drop test n low high old [] rises at was = refl
passing-drop test n low high old (e ∷ es) rises at was =
    bool_cases (nat_eq n e.0)
    (λ here.
    let same : n ≡ e.0 = eqb-true n e.0 here in
    let in' : test e.1 ≡ true = ap test (found_here n old e es here at) ∙ was in
    ap (passing test) (remove_here n e es here)
    ∙ sym (without-below test n (e.0 + 1) high es rises.1 (omega arith))
    ∙ sym (ap (λ b. cond (not b) (e.0 ∷ without n (passing test es)) (without n (passing test es)))
    (eq-eqb e.0 n (sym same)))
    ∙ ap (without n) (sym (passing_by test e es true in')))
    (λ past.
    let rest = found_past n old e es past at in
    let apart : e.0 ≢ n = λ same. eqb-false n e.0 past (sym same) in
    ap (passing test) (remove_past n e es past)
    ∙ passing_by test e (remove_entry (nat_eq n) es) (test e.1) refl
    ∙ ap (λ v. cond (test e.1) (e.0 ∷ v) v) (passing-drop test n (e.0 + 1) high old es rises.1 rest was)
    ∙ without-other test n e es apart)

module _ (w : State) (rising : IsRising 0 w.objects w.next) (n : ℕ) (r : Record) (at : record_at w n ≡ Some r) where
  abbrev w' : State
  w' = without_object w n

  pub shrunk : (test : Record → Bool)
      → cond (test r) (without n (passing test w.objects)) (passing test w.objects) ≡ passing test w'.objects
  shrunk test =
      bool_cases (test r)
      (λ e. ap (λ b. cond b (without n (passing test w.objects)) (passing test w.objects)) e
      ∙ sym (passing-drop test n 0 w.next r w.objects rising at e))
      (λ e. ap (λ b. cond b (without n (passing test w.objects)) (passing test w.objects)) e
      ∙ sym (passing-skip test n r w.objects at e))
