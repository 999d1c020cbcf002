-- A history with one entry more.
use Rattle.std.proofs.Common.{◌≡◌, ℕ, ◌+◌, ◌<◌, length, take, drop, get_or, List, [], ◌∷◌, ◌++◌, Option}
use Rattle.std.proofs.Common.{Some, None, true, false, refl, sym, ◌∙◌, ap, subst, append_assoc}
use Rattle.std.specs.Prelude.{Bool, MatchBool}
use Rattle.std.proofs.lemmas.Bool.{true≢false}
use Rattle.std.proofs.lemmas.List.{map-append, take-append-drop, drop_more}
use Rattle.mud_world.specs.State.{State}
use Rattle.mud_world.specs.Opening.{opening_state}
use Rattle.mud_world.specs.Legal.{refusal, after}
use Rattle.mud_world.specs.History.{world_from, world_of}
use Rattle.mud_world.specs.declared.change.Change.{Change}
use Rattle.mud_world.specs.declared.refusal.Refusal.{Refusal}
use Rattle.mud_world.proofs.Histories.{world_of-legal}
use Rattle.mud_world.proofs.Worlds.{stepped-legal}
use Rattle.mud_chron.specs.Entry.{Entry}
use Rattle.mud_chron.specs.Replay.{changes_of, AreLegalFrom, AreLegal}
use Rattle.mud_undo.specs.inner.Building.{IsBuilt}

legal_from-push : (w : State) (es : List Entry) (e : Entry) → AreLegalFrom w (changes_of es)
    → refusal (world_from w (changes_of es)) e.change ≡ None → AreLegalFrom w (changes_of (es ++ e ∷ []))
legal_from-push w [] e h legal = (legal, tt)
legal_from-push w (c ∷ es) e h legal = (
  h.0,
  legal_from-push (after w c.change) es e h.1
      (subst (λ s. refusal (world_from s (changes_of es)) e.change ≡ None) (stepped-legal w c.change h.0) legal),
)

-- where all are legal, each is
legal-at : (w : State) (es : List Entry) (e : Entry) (rest : List Entry) → AreLegalFrom w (changes_of (es ++ e ∷ rest))
    → refusal (world_from w (changes_of es)) e.change ≡ None
legal-at w [] e rest legal = legal.0
legal-at w (c ∷ es) e rest legal =
    ap (λ v. refusal (world_from v (changes_of es)) e.change) (stepped-legal w c.change legal.0)
    ∙ legal-at (after w c.change) es e rest legal.1

-- a legal change is built
pub built-push : (es : List Entry) (w : State) (e : Entry) → IsBuilt es w → refusal w e.change ≡ None
    → IsBuilt (es ++ e ∷ []) (after w e.change)
built-push es w e built legal =
    let allowed : refusal (world_of (changes_of es)) e.change ≡ None =
    subst (λ v. refusal v e.change ≡ None) built.world legal in
    record {
      legal = legal_from-push opening_state es e built.legal allowed;
      world = ap (λ v. after v e.change) built.world ∙ sym (world_of-legal (changes_of es) e.change allowed)
          ∙ ap world_of (sym (map-append (λ (d : Entry). d.change) es (e ∷ [])));
    }

-- a legal change is built, in terms of the code's values
pub put_built : (es items : List Entry) (w made : State) (e copied : Entry) (asked done : Change) → IsBuilt es w
    → asked ≡ e.change → refusal w asked ≡ None → done ≡ e.change → made ≡ after w done → copied ≡ e
    → items ≡ es ++ copied ∷ [] → IsBuilt items made
put_built es items w made e copied asked done built is legal is' result same list =
    subst (λ l. IsBuilt l made) (sym (list ∙ ap (λ d. es ++ d ∷ []) same))
    (subst (IsBuilt (es ++ e ∷ [])) (sym (result ∙ ap (after w) is'))
    (built-push es w e built (ap (refusal w) (sym is) ∙ legal)))

-- one that is refused makes the history illegal, whatever comes behind it
pub refused-push : (es : List Entry) (w : State) (e : Entry) (f : Refusal) → IsBuilt es w
    → refusal w e.change ≡ Some f → (rest : List Entry) → AreLegal (changes_of (es ++ e ∷ rest)) → ⊥
refused-push es w e f built not rest legal =
    let no : ◌≡◌ {A = Option Refusal} (Some f) None =
    sym not ∙ ap (λ v. refusal v e.change) built.world ∙ legal-at opening_state es e rest legal in
    absurd (cc)

-- the meaning of a test
pub when-false : (A B : Type 0) (b : Bool) → MatchBool b A B → b ≡ false → B
when-false A B true is e = absurd (true≢false e)
when-false A B false is e = is

pub when-true : (A B : Type 0) (b : Bool) → MatchBool b A B → b ≡ true → A
when-true A B true is e = is
when-true A B false is e = absurd (true≢false (sym e))

-- a list is what was added so far, the next one, and the rest
pub split-at : (es built part : List Entry) (i : ℕ) (e : Entry) → i < length part → built ≡ es ++ take i part
    → e ≡ get_or part i e → es ++ part ≡ built ++ e ∷ drop (i + 1) part
split-at es built part i e less is at =
    ap (λ l. es ++ l)
    (sym (take-append-drop i part)
    ∙ ap (λ l. take i part ++ l) (drop_more part i e less ∙ ap (λ d. d ∷ drop (i + 1) part) (sym at)))
    ∙ sym (append_assoc es (take i part) (e ∷ drop (i + 1) part)) ∙ ap (λ l. l ++ e ∷ drop (i + 1) part) (sym is)

pub nothing-built : IsBuilt [] opening_state
nothing-built = record { legal = tt; world = refl }
