-- A history that is legal so far, its next change, and its prefixes.
use Rattle.std.proofs.Common.{◌≡◌, ℕ, zero, suc, ◌+◌, ◌<◌, List, [], ◌∷◌, ◌++◌, length, take, refl, sym}
use Rattle.std.proofs.Common.{Option, Some, None, ◌∙◌, ap, subst, get_or}
use Rattle.std.proofs.lemmas.List.{take_more, take-map, map-append}
use Rattle.std.specs.Prelude.{is_none, if◌then◌else◌}
use Rattle.mud_world.specs.State.{State}
use Rattle.mud_world.specs.Opening.{opening_state}
use Rattle.mud_world.specs.Legal.{refusal, after}
use Rattle.mud_world.specs.History.{world_from, world_of}
use Rattle.mud_world.specs.History.{step_or_same}
use Rattle.mud_world.proofs.Histories.{world_of-legal}
use Rattle.mud_world.specs.declared.change.Change.{Change}
use Rattle.mud_world.specs.declared.refusal.Refusal.{Refusal}
use Rattle.mud_chron.specs.Replay.{changes_of, AreLegalFrom, AreLegal, IsFirstIllegal}
use Rattle.mud_chron.specs.Entry.{Entry}

-- a legal change is applied
made : (w : State) (c : Change) → refusal w c ≡ None → step_or_same w c ≡ after w c
made w c legal = ap (λ o. if is_none o then after w c else w) legal

legal_from-push : (w : State) (changes : List Change) (e : Change) → AreLegalFrom w changes
    → refusal (world_from w changes) e ≡ None → AreLegalFrom w (changes ++ e ∷ [])
legal_from-push w [] e h legal = (legal, tt)
legal_from-push w (c ∷ changes) e h legal = (
  h.0,
  legal_from-push (after w c) changes e h.1
      (subst (λ s. refusal (world_from s changes) e ≡ None) (made w c h.0) legal),
)

changes-more : (es : List Entry) (i : ℕ) (d : Entry) → i < length es
    → changes_of (take (i + 1) es) ≡ changes_of (take i es) ++ (get_or es i d).change ∷ []
changes-more es i d h =
    ap changes_of (take_more es i d h) ∙ map-append (λ (e : Entry). e.change) (take i es) (get_or es i d ∷ [])

-- if all changes are legal, each is
legal-at : (w : State) (before : List Change) (e : Change) (behind : List Change)
    → AreLegalFrom w (before ++ e ∷ behind) → refusal (world_from w before) e ≡ None
legal-at w [] e behind legal = legal.0
legal-at w (b ∷ before) e behind legal =
    ap (λ v. refusal (world_from v before) e) (made w b legal.0) ∙ legal-at (after w b) before e behind legal.1

-- the next change is legal
pub grown : (es : List Entry) (i : ℕ) (d : Entry) (w : State) → i < length es
    → AreLegal (changes_of (take i es)) → w ≡ world_of (changes_of (take i es))
    → refusal w (get_or es i d).change ≡ None
    → record {
      legal : AreLegal (changes_of (take (i + 1) es));
      world : after w (get_or es i d).change
          ≡ world_of (changes_of (take (i + 1) es));
    }
grown es i d w h legal is next =
    let cs : List Change = changes_of (take i es) in
    let c : Change = (get_or es i d).change in
    let allowed : refusal (world_of cs) c ≡ None = subst (λ v. refusal v c ≡ None) is next in
    let one = changes-more es i d h in
    record {
      legal = subst AreLegal (sym one) (legal_from-push opening_state cs c legal allowed);
      world = ap (λ v. after v c) is ∙ sym (world_of-legal cs c allowed) ∙ ap world_of (sym one);
    }

-- the next change is not legal
pub refused : (es : List Entry) (i : ℕ) (d : Entry) (w : State) (f : Refusal) → i < length es
    → AreLegal (changes_of (take i es)) → w ≡ world_of (changes_of (take i es))
    → refusal w (get_or es i d).change ≡ Some f → IsFirstIllegal (changes_of es) (i + 1)
refused es i d w f h legal is next =
    let cs : List Change = changes_of (take i es) in
    let c : Change = (get_or es i d).change in
    let fronts : (n : ℕ) → take n (changes_of es) ≡ changes_of (take n es) = λ n. take-map (λ e. e.change) n es in
    let not_none : ◌≡◌ {A = Option Refusal} (Some f) None → ⊥ = λ e. absurd (cc) in (
      i,
      refl,
      subst AreLegal (sym (fronts i)) legal,
      λ all. not_none (sym next ∙ ap (λ v. refusal v c) is
          ∙ legal-at opening_state cs c [] (subst AreLegal (fronts (i + 1) ∙ changes-more es i d h) all)),
    )

legal_front : (w : State) (changes : List Change) (n : ℕ) → AreLegalFrom w changes → AreLegalFrom w (take n changes)
legal_front w [] zero legal = tt
legal_front w [] (suc n) legal = tt
legal_front w (c ∷ changes) zero legal = tt
legal_front w (c ∷ changes) (suc n) legal = (legal.0, legal_front (after w c) changes n legal.1)

-- a prefix of a legal history is legal
pub legal_prefix : (es : List Entry) (n : ℕ) → AreLegal (changes_of es) → AreLegal (changes_of (take n es))
legal_prefix es n legal =
    subst AreLegal (take-map (λ e. e.change) n es) (legal_front opening_state (changes_of es) n legal)
