-- Only its owner, its own walk and a move of it change an object.
use Rattle.std.proofs.Common.{◌≡◌, ◌≢◌, ◌⊎◌, inl, inr, ℕ, Bool, true, false, List, [], ◌∷◌, Option, Some, None}
use Rattle.std.proofs.Common.{refl, sym, ◌∙◌, ap, subst, cond, eqb}
use Rattle.std.specs.Prelude.{IsTrue, not, ◌||◌, nat_eq}
use Rattle.std.specs.Option.{option_map_or}
use Rattle.std.specs.List.{enumerate_from}
use Rattle.std.specs.Map.{lookup, remove_entry}
use Rattle.std.proofs.lemmas.Bool.{cases_eq, eq-eqb, ne_eqb}
use Rattle.mud_world.specs.declared.record.Record.{Record}
use Rattle.mud_world.specs.declared.change.Change.{Change}
use Rattle.mud_world.specs.declared.change.Deed.{Deed}
use Rattle.mud_world.specs.declared.change.Deed.TheVariants.{Dig, Make, Lock, Unlock, Move, Walk, Cost, Player, Rename}
use Rattle.mud_world.specs.declared.change.Deed.TheVariants.{Recycle, Say, Emote}
use Rattle.mud_world.specs.declared.refusal.Refusal.{Refusal}
use Rattle.mud_world.specs.declared.refusal.Refusal.TheVariants.{Denied}
use Rattle.mud_world.specs.State.{State, record_at, destination_of}
use Rattle.mud_world.specs.Conditions.{owns}
use Rattle.mud_world.specs.Kinds.{kind_at, kind_costing}
use Rattle.mud_world.specs.Legal.{fails, refusal, deed_fails}
use Rattle.mud_world.specs.Results.{with_record_changed, dig_records, deed_result}
use Rattle.mud_world.specs.inner.Fields.{with_record}
use Rattle.mud_world.proofs.Records.{record_cases, lookup-set_value_same, lookup-set_value_other, lookup-append_left}
use Rattle.mud_world.proofs.Editing.{changed_by}
use Rattle.mud_theorems.specs.Owning.{moves, IsMoved}
use Rattle.mud_theorems.specs.Laws.{OnlyOwnersChange}

-- the law below that this uses: no condition fails for a change that is not refused
abbrev pub NothingFails : Type 0
NothingFails = (w : State) (e : Change) → refusal w e ≡ None → (f : Refusal) → fails w e f ≡ false

-- an object after a deed
abbrev Leaves : State → ℕ → Deed → ℕ → Record → Type 0
Leaves w actor deed o r =
    (record_at (deed_result w actor deed) o ≡ Some r) ⊎ IsTrue (owns w actor o)
    ⊎ (IsTrue (moves actor deed o) × IsMoved (deed_result w actor deed) o r)

-- ---- records

-- only the record of object n changes
changed : (w : State) (n o : ℕ) (f : Record → Record) (r : Record) → record_at w o ≡ Some r
    → ((o ≡ n) × (record_at (with_record_changed w n f) o ≡ Some (f r)))
    ⊎ (record_at (with_record_changed w n f) o ≡ Some r)
changed w n o f r at = go (cases_eq o n)
  where
    go : (o ≡ n) ⊎ (o ≢ n) → ((o ≡ n) × (record_at (with_record_changed w n f) o ≡ Some (f r)))
        ⊎ (record_at (with_record_changed w n f) o ≡ Some r)
    go (inl same) =
        let here : record_at w n ≡ Some r = subst (λ (k : ℕ). record_at w k ≡ Some r) same at in
        inl (
          same,
          ap (λ (v : State). record_at v o) (changed_by w n f r here)
              ∙ ap (λ (k : ℕ). record_at (with_record w n (f r)) k) same
              ∙ lookup-set_value_same n (f r) r w.objects here,
        )
    go (inr apart) =
        inr (record_cases (record_at w n)
        (λ none. ap (λ v. record_at (option_map_or (λ s. with_record w n (f s)) v w) o) none ∙ at)
        (λ s is.
        ap (λ (v : State). record_at v o) (changed_by w n f s is)
        ∙ lookup-set_value_other n o apart (f s) w.objects ∙ at))

-- only the record of object n is gone
gone : (n o : ℕ) (es : List (ℕ × Record)) → o ≢ n
    → lookup (nat_eq o) (remove_entry (nat_eq n) es) ≡ lookup (nat_eq o) es
gone n o [] apart = refl
gone n o (e ∷ es) apart = go (cases_eq n e.0) (gone n o es apart)
  where
    go : (n ≡ e.0) ⊎ (n ≢ e.0) → lookup (nat_eq o) (remove_entry (nat_eq n) es) ≡ lookup (nat_eq o) es
        → lookup (nat_eq o) (remove_entry (nat_eq n) (e ∷ es)) ≡ lookup (nat_eq o) (e ∷ es)
    go (inl same) rest =
        ap (λ b. lookup (nat_eq o) (cond b es (e ∷ remove_entry (nat_eq n) es))) (eq-eqb n e.0 same)
        ∙ sym (ap (λ b. cond b (Some e.1) (lookup (nat_eq o) es)) (ne_eqb o e.0 (λ is. apart (is ∙ sym same))))
    go (inr past) rest =
        ap (λ b. lookup (nat_eq o) (cond b es (e ∷ remove_entry (nat_eq n) es))) (ne_eqb n e.0 past)
        ∙ ap (λ v. cond (eqb o e.0) (Some e.1) v) rest

-- ---- deeds

not-false : (b : Bool) → not b ≡ false → b ≡ true
not-false true e = refl
not-false false e = absurd (cc)

or-right : (a b : Bool) → a || b ≡ false → b ≡ false
or-right true b e = absurd (cc)
or-right false b e = e

-- deeds on an object that the actor owns
by-owner : (w : State) (actor n o : ℕ) (deed : Deed) (f : Record → Record) (r : Record) → record_at w o ≡ Some r
    → not (owns w actor n) ≡ false → deed_result w actor deed ≡ with_record_changed w n f → Leaves w actor deed o r
by-owner w actor n o deed f r at denied is = go (changed w n o f r at)
  where
    go : ((o ≡ n) × (record_at (with_record_changed w n f) o ≡ Some (f r)))
        ⊎ (record_at (with_record_changed w n f) o ≡ Some r) → Leaves w actor deed o r
    go (inl here) =
        inr (inl (subst (λ (k : ℕ). owns w actor k ≡ true) (sym here.0) (not-false (owns w actor n) denied)))
    go (inr other) = inl (ap (λ (v : State). record_at v o) is ∙ other)

-- an object that moves
by-moving : (w : State) (actor n to o : ℕ) (deed : Deed) (r : Record) → record_at w o ≡ Some r
    → (o ≡ n → moves actor deed o ≡ true)
    → deed_result w actor deed ≡ with_record_changed w n (λ s. record s { kind = kind_at to s.kind })
    → Leaves w actor deed o r
by-moving w actor n to o deed r at mine is = go (changed w n o (λ s. record s { kind = kind_at to s.kind }) r at)
  where
    v : State
    v = with_record_changed w n (λ s. record s { kind = kind_at to s.kind })

    go : ((o ≡ n) × (record_at v o ≡ Some (record r { kind = kind_at to r.kind }))) ⊎ (record_at v o ≡ Some r)
        → Leaves w actor deed o r
    go (inl here) =
        inr (inr (mine here.0, (to, ap (λ (x : State). record_at x o) is ∙ here.1)))
    go (inr other) = inl (ap (λ (x : State). record_at x o) is ∙ other)

walks : (w : State) (actor exit o : ℕ) (r : Record) → record_at w o ≡ Some r → Leaves w actor (Walk exit) o r
walks w actor exit o r at = go (destination_of w exit) refl
  where
    go : (v : Option ℕ) → destination_of w exit ≡ v → Leaves w actor (Walk exit) o r
    go None none =
        inl (ap (λ v. record_at (option_map_or (λ room. with_record_changed w actor
        (λ s. record s { kind = kind_at room s.kind })) v w) o) none ∙ at)
    go (Some room) there =
        by-moving w actor actor room o (Walk exit) r at (λ same. eq-eqb o actor same)
        (ap (λ v. option_map_or (λ room. with_record_changed w actor
        (λ s. record s { kind = kind_at room s.kind })) v w) there)

leaves : (w : State) (actor : ℕ) (deed : Deed) (o : ℕ) (r : Record)
    → ((f : Refusal) → deed_fails w actor deed f ≡ false) → record_at w o ≡ Some r → Leaves w actor deed o r
leaves w actor (Dig target doors) o r fine at =
    inl (lookup-append_left o r w.objects (enumerate_from w.next (dig_records w actor target doors)) at)
leaves w actor (Make names) o r fine at = inl (lookup-append_left o r w.objects _ at)
leaves w actor (Player name) o r fine at = inl (lookup-append_left o r w.objects _ at)
leaves w actor (Lock object key) o r fine at =
    by-owner w actor object o (Lock object key) (λ s. record s { key = Some key }) r at (fine Denied) refl
leaves w actor (Unlock object) o r fine at =
    by-owner w actor object o (Unlock object) (λ s. record s { key = None }) r at (fine Denied) refl
leaves w actor (Move thing to) o r fine at =
    by-moving w actor thing to o (Move thing to) r at (λ same. eq-eqb o thing same) refl
leaves w actor (Walk exit) o r fine at = walks w actor exit o r at
leaves w actor (Cost exit cost) o r fine at =
    by-owner w actor exit o (Cost exit cost) (λ s. record s { kind = kind_costing cost s.kind }) r at (fine Denied) refl
leaves w actor (Rename object names) o r fine at =
    by-owner w actor object o (Rename object names) (λ s. record s { names = names }) r at (fine Denied) refl
leaves w actor (Recycle object) o r fine at = go (cases_eq o object)
  where
    go : (o ≡ object) ⊎ (o ≢ object) → Leaves w actor (Recycle object) o r
    go (inl same) =
        inr (inl (subst (λ (k : ℕ). owns w actor k ≡ true) (sym same) (not-false (owns w actor object) (fine Denied))))
    go (inr apart) = inl (gone object o w.objects apart ∙ at)
leaves w actor (Say text) o r fine at = inl at
leaves w actor (Emote text) o r fine at = inl at

pub only_owners_change : NothingFails → OnlyOwnersChange
only_owners_change nothing w e o r legal at =
    leaves w e.actor e.deed o r (λ f. or-right _ (deed_fails w e.actor e.deed f) (nothing w e legal f)) at
