-- Talk never changes a world.
use Rattle.std.proofs.Common.{◌≡◌, ◌≤◌, ◌<◌, ◌+◌, ◌++◌, take, get_or, ℕ, true, false, length, arith, cond, List, []}
use Rattle.std.proofs.Common.{◌∷◌, None, refl, sym, ◌∙◌, ap, subst}
use Rattle.std.specs.Prelude.{not, ◌||◌, is_none, if◌then◌else◌}
use Rattle.std.proofs.lemmas.Bool.{true≢false}
use Rattle.std.proofs.lemmas.List.Elements.{filter_more}
use Rattle.mud_world.proofs.Records.{bool_cases}
use Rattle.mud_world.specs.State.{State}
use Rattle.mud_world.specs.Opening.{opening_state}
use Rattle.mud_world.specs.Legal.{refusal, after, deed_result}
use Rattle.mud_world.specs.History.{world_from}
use Rattle.mud_world.specs.History.{step_or_same}
use Rattle.mud_world.specs.declared.change.Change.{Change}
use Rattle.mud_world.specs.declared.change.Deed.{Deed}
use Rattle.mud_world.specs.declared.change.Deed.TheVariants.{Dig, Make, Lock, Unlock, Move, Walk, Cost, Player, Rename}
use Rattle.mud_world.specs.declared.change.Deed.TheVariants.{Recycle, Say, Emote}
use Rattle.mud_chron.specs.Entry.{Entry}
use Rattle.mud_chron.specs.Replay.{changes_of, AreLegalFrom}
use Rattle.mud_compact.specs.Shorter.{is_talk, without_talk, has_talk}
use Rattle.mud_compact.specs.inner.ShorterHistory.{IsQuiet}
use Rattle.mud_compact.specs.Laws.{TalkChangesNothing}

-- talk leaves the world unchanged
silent : (w : State) (actor : ℕ) (deed : Deed) → is_talk deed ≡ true → deed_result w actor deed ≡ w
silent w actor (Say text) is = refl
silent w actor (Emote text) is = refl
silent w actor (Dig target doors) is = absurd (true≢false (sym is))
silent w actor (Make names) is = absurd (true≢false (sym is))
silent w actor (Player name) is = absurd (true≢false (sym is))
silent w actor (Lock object key) is = absurd (true≢false (sym is))
silent w actor (Unlock object) is = absurd (true≢false (sym is))
silent w actor (Move thing to) is = absurd (true≢false (sym is))
silent w actor (Walk exit) is = absurd (true≢false (sym is))
silent w actor (Cost exit cost) is = absurd (true≢false (sym is))
silent w actor (Rename object names) is = absurd (true≢false (sym is))
silent w actor (Recycle object) is = absurd (true≢false (sym is))

-- a legal change is applied
made : (w : State) (c : Change) → refusal w c ≡ None → step_or_same w c ≡ after w c
made w c legal = ap (λ o. if is_none o then after w c else w) legal

-- the shorter entries are legal from here on, and lead to the same world as the longer ones
record LeadsOn (w : State) (entries others : List Entry) : Type 0 where
  legal : AreLegalFrom w (changes_of others)
  world : world_from w (changes_of others) ≡ world_from w (changes_of entries)

leads_on : (w : State) (es : List Entry) → AreLegalFrom w (changes_of es) → LeadsOn w es (without_talk es)
leads_on w [] legal = record { legal = tt; world = refl }
leads_on w (e ∷ es) legal =
    let step = made w e.change legal.0 in
    bool_cases (is_talk e.change.deed)
    (λ talk.
    let same : after w e.change ≡ w = silent w e.change.actor e.change.deed talk in
    let rest = leads_on w es (subst (λ v. AreLegalFrom v (changes_of es)) same legal.1) in
    subst (LeadsOn w (e ∷ es)) (sym (ap (λ b. cond (not b) (e ∷ without_talk es) (without_talk es)) talk))
    (record {
      legal = rest.legal;
      world = rest.world ∙ sym (ap (λ v. world_from v (changes_of es)) (step ∙ same));
    }))
    (λ work.
    let rest = leads_on (after w e.change) es legal.1 in
    subst (LeadsOn w (e ∷ es)) (sym (ap (λ b. cond (not b) (e ∷ without_talk es) (without_talk es)) work))
    (record {
      legal = (legal.0, rest.legal);
      world = ap (λ v. world_from v (changes_of (without_talk es))) step ∙ rest.world
          ∙ sym (ap (λ v. world_from v (changes_of es)) step);
    }))

pub talk_changes_nothing : TalkChangesNothing
talk_changes_nothing es legal =
    let on = leads_on opening_state es legal in
    record { legal = legal; others_legal = on.legal; world = on.world }

pub silent_without : (es : List Entry) → has_talk (without_talk es) ≡ false
silent_without [] = refl
silent_without (e ∷ es) =
    bool_cases (is_talk e.change.deed)
    (λ talk. ap (λ b. has_talk (cond (not b) (e ∷ without_talk es) (without_talk es))) talk ∙ silent_without es)
    (λ work. ap (λ b. has_talk (cond (not b) (e ∷ without_talk es) (without_talk es))) work
    ∙ ap (λ b. b || has_talk (without_talk es)) work ∙ silent_without es)

pub fewer_without : (es : List Entry) → length (without_talk es) ≤ length es
fewer_without [] = omega arith
fewer_without (e ∷ es) =
    let rest = fewer_without es in
    bool_cases (is_talk e.change.deed)
    (λ talk. subst (λ l. length l ≤ length (e ∷ es))
    (sym (ap (λ b. cond (not b) (e ∷ without_talk es) (without_talk es)) talk)) (omega (arith, rest)))
    (λ work. subst (λ l. length l ≤ length (e ∷ es))
    (sym (ap (λ b. cond (not b) (e ∷ without_talk es) (without_talk es)) work)) (omega (arith, rest)))

-- one more entry
pub without_more : (es : List Entry) (i : ℕ) (d : Entry) → i < length es
    → without_talk (take (i + 1) es)
    ≡ without_talk (take i es) ++ cond (not (is_talk (get_or es i d).change.deed)) (get_or es i d ∷ []) []
without_more es i d h = filter_more (λ (e : Entry). not (is_talk e.change.deed)) es i d h

pub quiet : (es kept : List Entry) → kept ≡ without_talk es → IsQuiet es kept
quiet es kept is = subst (IsQuiet es) (sym is) (record {
  is = refl;
  silent = silent_without es;
  no_longer = fewer_without es;
  same = talk_changes_nothing es;
})
