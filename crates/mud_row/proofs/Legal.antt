-- A history that is legal so far, and its next entry.
use Rattle.std.proofs.Common.{◌≡◌, ℕ, zero, suc, ◌+◌, List, [], ◌∷◌, take, Option, Some, None, slice_get, add-one, refl}
use Rattle.std.proofs.Common.{sym, ap, ◌∙◌, subst}
use Rattle.std.proofs.lemmas.List.{take-map}
use Rattle.std.specs.Prelude.{is_none, if◌then◌else◌}
use Rattle.mud_world.specs.State.{State}
use Rattle.mud_world.specs.Opening.{opening_state}
use Rattle.mud_world.specs.History.{world_from, world_of}
use Rattle.mud_world.specs.Legal.{refusal, after}
use Rattle.mud_world.specs.History.{step_or_same}
use Rattle.mud_world.specs.declared.change.Change.{Change}
use Rattle.mud_world.specs.declared.refusal.Refusal.{Refusal}
use Rattle.mud_chron.specs.Entry.{Entry}
use Rattle.mud_chron.specs.Replay.{changes_of, world_at, AreLegalFrom, AreLegal, IsFirstIllegal}
use Rattle.mud_row.proofs.Worlds.{world_at-next}

-- a legal change is applied
made : (w : State) (c : Change) → refusal w c ≡ None → step_or_same w c ≡ after w c
made w c legal = ap (λ o. if is_none o then after w c else w) legal

legal_from-take : (w : State) (es : List Entry) (n : ℕ) (e : Entry) → slice_get es n ≡ Some e
    → AreLegalFrom w (changes_of (take n es)) → refusal (world_from w (changes_of (take n es))) e.change ≡ None
    → AreLegalFrom w (changes_of (take (suc n) es))
legal_from-take w [] n e at legal next = absurd (cc)
legal_from-take w (x ∷ es) zero e at legal next =
    let same : x ≡ e = cc in (subst (λ (y : Entry). refusal w y.change ≡ None) (sym same) next, tt)
legal_from-take w (x ∷ es) (suc n) e at legal next = (
  legal.0,
  legal_from-take (after w x.change) es n e at legal.1
      (subst (λ s. refusal (world_from s (changes_of (take n es))) e.change ≡ None) (made w x.change legal.0) next),
)

legal_at-take : (w : State) (es : List Entry) (n : ℕ) (e : Entry) → slice_get es n ≡ Some e
    → AreLegalFrom w (changes_of (take (suc n) es)) → refusal (world_from w (changes_of (take n es))) e.change ≡ None
legal_at-take w [] n e at legal = absurd (cc)
legal_at-take w (x ∷ es) zero e at legal =
    let same : x ≡ e = cc in subst (λ (y : Entry). refusal w y.change ≡ None) same legal.0
legal_at-take w (x ∷ es) (suc n) e at legal =
    ap (λ v. refusal (world_from v (changes_of (take n es))) e.change) (made w x.change legal.0)
    ∙ legal_at-take (after w x.change) es n e at legal.1

-- the change of the next entry is legal
pub next_legal : (es : List Entry) (n : ℕ) (e : Entry) (w : State) → slice_get es n ≡ Some e
    → AreLegal (changes_of (take n es)) → w ≡ world_of (changes_of (take n es)) → refusal w e.change ≡ None
    → record {
      legal : AreLegal (changes_of (take (n + 1) es));
      world : after w e.change ≡ world_of (changes_of (take (n + 1) es));
    }
next_legal es n e w at legal is next =
    let allowed : refusal (world_at es n) e.change ≡ None = subst (λ v. refusal v e.change ≡ None) is next in
    record {
      legal = rw (add-one n) (legal_from-take opening_state es n e at legal allowed);
      world = ap (λ v. after v e.change) is ∙ sym (made (world_at es n) e.change allowed)
          ∙ sym (world_at-next es n e at);
    }

-- the change of the next entry is not legal
pub next_illegal : (es : List Entry) (n : ℕ) (e : Entry) (w : State) (f : Refusal) → slice_get es n ≡ Some e
    → AreLegal (changes_of (take n es)) → w ≡ world_of (changes_of (take n es)) → refusal w e.change ≡ Some f
    → IsFirstIllegal (changes_of es) (n + 1)
next_illegal es n e w f at legal is next =
    let fronts : (k : ℕ) → take k (changes_of es) ≡ changes_of (take k es) = λ k. take-map (λ x. x.change) k es in
    let more : take (n + 1) (changes_of es) ≡ changes_of (take (suc n) es) =
    fronts (n + 1) ∙ ap (λ k. changes_of (take k es)) (add-one n) in
    let not_none : ◌≡◌ {A = Option Refusal} (Some f) None → ⊥ = λ x. absurd (cc) in (
      n,
      refl,
      subst AreLegal (sym (fronts n)) legal,
      λ all. not_none (sym next ∙ ap (λ v. refusal v e.change) is
          ∙ legal_at-take opening_state es n e at (subst AreLegal more all)),
    )
