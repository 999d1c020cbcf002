-- The index of keys after a change.
use Rattle.std.proofs.Common.{◌≡◌, ◌≢◌, ℕ, ◌+◌, ◌-◌, ◌<◌, ◌≤◌, Bool, true, false, not, ◌||◌, ◌&&◌, List, [], ◌∷◌, ◌++◌}
use Rattle.std.proofs.Common.{length, map, set, get_or, Option, Some, None, refl, sym, ◌∙◌, ap, subst, arith, ⊎_elim}
use Rattle.std.proofs.Common.{◌⊎◌, inl, inr}
use Rattle.std.specs.Prelude.{nat_eq, is_none, is_some, if◌then◌else◌}
use Rattle.std.specs.Option.{option_map_or, option_and_then}
use Rattle.std.specs.List.{list_any, range_with_len}
use Rattle.std.proofs.lemmas.Bool.{cases_eq, cases_lt, or_parts, true≢false, eq-eqb, ne_eqb}
use Rattle.std.proofs.lemmas.List.{length-append, length-set, get_or_append_left, get_or-append_right, get_or_past}
use Rattle.std.proofs.lemmas.List.{get_or-set_other}
use Rattle.std.proofs.lemmas.Grind.{get_or-set_at}
use Rattle.std.proofs.lemmas.List.FromFn.{length-map-range_with_len, get_or-map-range_with_len}
use Rattle.mud_world.specs.declared.record.Record.{Record}
use Rattle.mud_world.specs.declared.record.Kind.TheVariants.{Thing, Player as PlayerIn}
use Rattle.mud_world.specs.declared.change.Change.{Change}
use Rattle.mud_world.specs.declared.change.Deed.{Deed}
use Rattle.mud_world.specs.declared.change.Deed.TheVariants.{Dig, Make, Lock, Unlock, Move, Walk, Cost, Player, Rename}
use Rattle.mud_world.specs.declared.change.Deed.TheVariants.{Recycle, Say, Emote}
use Rattle.mud_world.specs.Kinds.{kind_at, kind_costing}
use Rattle.mud_world.specs.State.{State, record_at, has, key_of, destination_of}
use Rattle.mud_world.specs.Sound.{IsSound}
use Rattle.mud_world.specs.Legal.{refusal, after, with_new, with_record_changed, new_record, dig_records}
use Rattle.mud_world.specs.History.{step_or_same}
use Rattle.mud_world.specs.KeyIndex.{IsKeyIndex}
use Rattle.mud_world.specs.inner.Answers.{IsLooked, IsEnlarged, rekeyed_by}
use Rattle.mud_world.specs.inner.Fields.{with_record, without_object}
use Rattle.mud_world.proofs.Records.{record_cases, bool_cases, lookup-set_value_same, lookup-set_value_other}
use Rattle.mud_world.proofs.Editing.{changed_by}
use Rattle.mud_world.proofs.Carrying.{has-above, missing-above}
use Rattle.mud_world.proofs.Written.{keyless-key}
use Rattle.mud_world.proofs.Older.{record-kept}
use Rattle.mud_world.proofs.Removing.{lookup-remove_other}
use Rattle.mud_world.proofs.Sounding.{soundness_law}

-- the object has no key
abbrev pub is_keyless : State → ℕ → Bool
is_keyless w n = has w n (λ r. is_none r.key)

-- the object has the same key as before, or none as before
abbrev KeepsKey : State → State → ℕ → Type 0
KeepsKey w now o = (is_keyless now o ≡ is_keyless w o) × (key_of now o ≡ key_of w o)

same_record : (w now : State) (o : ℕ) → record_at now o ≡ record_at w o → KeepsKey w now o
same_record w now o same = (
  ap (λ v. option_map_or (λ r. is_none r.key) v false) same,
  ap (option_and_then (λ r. r.key)) same,
)

-- an object gets another record with the same key
changed_keeps : (w : State) (n : ℕ) (f : Record → Record) → ((r : Record) → (f r).key ≡ r.key) → (o : ℕ)
    → KeepsKey w (with_record_changed w n f) o
changed_keeps w n f same o =
    record_cases (record_at w n)
    (λ e. subst (λ (v : State). KeepsKey w v o) (sym (ap (λ v. option_map_or (λ r. with_record w n (f r)) v w) e))
    (refl, refl))
    (λ r e. subst (λ (v : State). KeepsKey w v o) (sym (changed_by w n f r e))
    (⊎_elim
    (λ (here : o ≡ n).
    let now : record_at (with_record w n (f r)) o ≡ Some (f r) =
    ap (record_at (with_record w n (f r))) here ∙ lookup-set_value_same n (f r) r w.objects e in
    let was : record_at w o ≡ Some r = ap (record_at w) here ∙ e in (
      ap (λ v. option_map_or (λ r. is_none r.key) v false) now ∙ ap is_none (same r)
          ∙ sym (ap (λ v. option_map_or (λ r. is_none r.key) v false) was),
      ap (option_and_then (λ r. r.key)) now ∙ same r ∙ sym (ap (option_and_then (λ r. r.key)) was),
    ))
    (λ apart. same_record w (with_record w n (f r)) o (lookup-set_value_other n o apart (f r) w.objects))
    (cases_eq o n)))

-- another object gets another record
others_keep : (w : State) (n : ℕ) (f : Record → Record) (o : ℕ) → o ≢ n → KeepsKey w (with_record_changed w n f) o
others_keep w n f o apart =
    record_cases (record_at w n)
    (λ e. subst (λ (v : State). KeepsKey w v o) (sym (ap (λ v. option_map_or (λ r. with_record w n (f r)) v w) e))
    (refl, refl))
    (λ r e. subst (λ (v : State). KeepsKey w v o) (sym (changed_by w n f r e))
    (same_record w (with_record w n (f r)) o (lookup-set_value_other n o apart (f r) w.objects)))

not_it : (n o : ℕ) → Some n ≢ Some o → o ≢ n
not_it n o apart same = apart (ap (λ (m : ℕ). Some m) (sym same))

walked : (w : State) (q : ℕ) (v : Option ℕ) (o : ℕ) → KeepsKey w
    (option_map_or (λ room. with_record_changed w q (λ r. record r { kind = kind_at room r.kind })) v w) o
walked w q None o = (refl, refl)
walked w q (Some d) o = changed_keeps w q _ (λ r. refl) o

deed_keeps : (w : State) → IsSound w → (q : ℕ) (d : Deed) (o : ℕ) → o < w.next → rekeyed_by d ≢ Some o
    → KeepsKey w (after w (record { actor = q; deed = d })) o
deed_keeps w sound q (Dig target doors) o below apart =
    same_record w (with_new w (dig_records w q target doors)) o
    (record-kept w sound (dig_records w q target doors) o below)
deed_keeps w sound q (Make names) o below apart =
    same_record w (with_new w (new_record q names (Thing q) ∷ [])) o
    (record-kept w sound (new_record q names (Thing q) ∷ []) o below)
deed_keeps w sound q (Player name) o below apart =
    same_record w (with_new w (new_record q (name ∷ []) (PlayerIn 0) ∷ [])) o
    (record-kept w sound (new_record q (name ∷ []) (PlayerIn 0) ∷ []) o below)
deed_keeps w sound q (Lock n key) o below apart = others_keep w n _ o (not_it n o apart)
deed_keeps w sound q (Unlock n) o below apart = others_keep w n _ o (not_it n o apart)
deed_keeps w sound q (Move n to) o below apart = changed_keeps w n _ (λ r. refl) o
deed_keeps w sound q (Walk x) o below apart = walked w q (destination_of w x) o
deed_keeps w sound q (Cost x cost) o below apart = changed_keeps w x _ (λ r. refl) o
deed_keeps w sound q (Rename n names) o below apart = changed_keeps w n _ (λ r. refl) o
deed_keeps w sound q (Recycle n) o below apart =
    same_record w (without_object w n) o (lookup-remove_other n o (not_it n o apart) w.objects)
deed_keeps w sound q (Say text) o below apart = (refl, refl)
deed_keeps w sound q (Emote text) o below apart = (refl, refl)

changed_next : (w : State) (n : ℕ) (f : Record → Record) → (with_record_changed w n f).next ≡ w.next
changed_next w n f =
    record_cases (record_at w n)
    (λ e. ap (λ v. (option_map_or (λ r. with_record w n (f r)) v w).next) e)
    (λ r e. ap (λ v. (option_map_or (λ r. with_record w n (f r)) v w).next) e)

walked_next : (w : State) (q : ℕ) (v : Option ℕ)
    → (option_map_or (λ room. with_record_changed w q (λ r. record r { kind = kind_at room r.kind })) v w).next ≡ w.next
walked_next w q None = refl
walked_next w q (Some d) = changed_next w q (λ r. record r { kind = kind_at d r.kind })

-- no deed takes a number back
deed_next : (w : State) (q : ℕ) (d : Deed) → w.next ≤ (after w (record { actor = q; deed = d })).next
deed_next w q (Dig target doors) = omega arith
deed_next w q (Make names) = omega arith
deed_next w q (Player name) = omega arith
deed_next w q (Lock n key) = let same = changed_next w n (λ r. record r { key = Some key }) in omega (arith, same)
deed_next w q (Unlock n) = let same = changed_next w n (λ r. record r { key = None }) in omega (arith, same)
deed_next w q (Move n to) =
    let same = changed_next w n (λ r. record r { kind = kind_at to r.kind }) in omega (arith, same)
deed_next w q (Walk x) = let same = walked_next w q (destination_of w x) in omega (arith, same)
deed_next w q (Cost x cost) =
    let same = changed_next w x (λ r. record r { kind = kind_costing cost r.kind }) in omega (arith, same)
deed_next w q (Rename n names) =
    let same = changed_next w n (λ r. record r { names = names }) in omega (arith, same)
deed_next w q (Recycle n) = omega arith
deed_next w q (Say text) = omega arith
deed_next w q (Emote text) = omega arith

option_eq : (v : Option ℕ) (o : ℕ) → (v ≡ Some o) ⊎ (v ≢ Some o)
option_eq None o = inr (λ e. let bad : None ≡ Some o = e in absurd (cc))
option_eq (Some n) o =
    ⊎_elim
    (λ (e : n ≡ o). inl (ap (λ (m : ℕ). Some m) e))
    (λ apart. inr (λ e. apart (let same : n ≡ o = cc in same)))
    (cases_eq n o)

-- ---- the index after a look at the object and at the new ones
module _ (w now : State) (sound : IsSound now) (mono : w.next ≤ now.next) (but : Option ℕ)
    (keeps : (o : ℕ) → o < w.next → but ≢ Some o → KeepsKey w now o) (x m y : List Bool × List ℕ)
    (is : IsKeyIndex w x) (looked : IsLooked now but x m) (larger : IsEnlarged now m y) where
  count : length m.0 ≡ w.next
  count = looked.long ∙ is.long

  abbrev new : List Bool
  new = map (is_keyless now) (range_with_len (length m.0) (now.next - length m.0))

  long : length y.0 ≡ now.next
  long =
      let size = length-append m.0 new in
      let more = length-map-range_with_len (is_keyless now) (length m.0) (now.next - length m.0) in
      let old = count in
      ap length larger.keyless ∙ omega (arith, size, more, old, mono)

  old_plain : (o : ℕ) → o < w.next → get_or m.0 o false ≡ is_keyless now o
  old_plain o lt =
      ⊎_elim
      (λ (here : but ≡ Some o). looked.new o here (let size = is.long in omega (arith, lt, size)))
      (λ apart. looked.kept o apart ∙ is.plain o ∙ sym (keeps o lt apart).0)
      (option_eq but o)

  plain : (o : ℕ) → get_or y.0 o false ≡ is_keyless now o
  plain o =
      let old = count in
      ⊎_elim
      (λ (lt : o < w.next).
      ap (λ (bs : List Bool). get_or bs o false) larger.keyless
      ∙ get_or_append_left m.0 new false o (omega (arith, lt, old))
      ∙ old_plain o lt)
      (λ (le : w.next ≤ o).
      ⊎_elim
      (λ (lt : o < now.next).
      ap (λ (bs : List Bool). get_or bs o false) larger.keyless
      ∙ get_or-append_right m.0 new (length m.0) o false refl (omega (arith, le, old))
      ∙ get_or-map-range_with_len (is_keyless now) (length m.0) (now.next - length m.0) (o - length m.0) o false
      (omega (arith, le, lt, old)) (omega (arith, le, old)))
      (λ (past : now.next ≤ o).
      let size = long in get_or_past y.0 o false (omega (arith, past, size)) ∙ sym (has-above now sound o past _))
      (cases_lt o now.next))
      (cases_lt o w.next)

  unlisted : (o : ℕ) → list_any (nat_eq o) y.1 ≡ false → is_none (key_of now o) ≡ true
  unlisted o none =
      let rest = larger.listed o none in
      let first = looked.listed o rest.0 in
      let old = count in
      ⊎_elim
      (λ (lt : o < w.next).
      ⊎_elim
      (λ (here : but ≡ Some o). keyless-key (record_at now o) (first.1 here))
      (λ apart. ap is_none (keeps o lt apart).1 ∙ is.keyless o first.0)
      (option_eq but o))
      (λ (le : w.next ≤ o).
      ⊎_elim
      (λ (lt : o < now.next). keyless-key (record_at now o) (rest.1 (omega (arith, le, old)) lt))
      (λ (past : now.next ≤ o).
      ap (λ v. is_none (option_and_then (λ r. r.key) v)) (missing-above now sound o past))
      (cases_lt o now.next))
      (cases_lt o w.next)

  index_now : IsKeyIndex now y
  index_now = record { long = long; plain = plain; keyless = unlisted }

-- legal or not
pub index-follows : (w : State) → IsSound w → (e : Change) (now : State) → now ≡ step_or_same w e
    → (x m y : List Bool × List ℕ) → IsKeyIndex w x → IsLooked now (rekeyed_by e.deed) x m → IsEnlarged now m y
    → IsKeyIndex now y
index-follows w sound e now step x m y is looked larger = by_refusal (refusal w e) refl
  where
    by_refusal : (v : Option _) → refusal w e ≡ v → IsKeyIndex now y
    by_refusal None legal =
        let done : now ≡ after w e = step ∙ ap (λ v. if is_none v then after w e else w) legal in
        index_now w now (subst IsSound (sym done) (soundness_law w e sound legal))
        (subst (λ (s : State). w.next ≤ s.next) (sym done) (deed_next w e.actor e.deed)) (rekeyed_by e.deed)
        (λ o lt apart. subst (λ (s : State). KeepsKey w s o) (sym done) (deed_keeps w sound e.actor e.deed o lt apart))
        x m y is looked larger
    by_refusal (Some f) illegal =
        let same : now ≡ w = step ∙ ap (λ v. if is_none v then after w e else w) illegal in
        index_now w now (subst IsSound (sym same) sound)
        (let next = ap (λ (s : State). s.next) same in omega (arith, next)) (rekeyed_by e.deed)
        (λ o lt apart. subst (λ (s : State). KeepsKey w s o) (sym same) (refl, refl)) x m y is looked larger
