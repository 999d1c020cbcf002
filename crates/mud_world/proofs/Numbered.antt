-- Records in the slots of their numbers: look-ups and changes of a slot.
use Rattle.std.proofs.Common.{◌≡◌, ℕ, zero, suc, ◌+◌, ◌<◌, ◌≤◌, cond, List, [], ◌∷◌, ◌++◌}
use Rattle.std.proofs.Common.{Option, Some, None, refl, sym, ◌∙◌, ap, arith, length, slice_get, slice_set, take}
use Rattle.std.proofs.Common.{⊎_elim}
use Rattle.std.specs.Prelude.{nat_eq}
use Rattle.std.specs.Option.{option_map, option_map_or, option_and_then}
use Rattle.std.specs.Map.{lookup, set_value, remove_entry}
use Rattle.std.proofs.lemmas.Bool.{eq-eqb, ne_eqb}
use Rattle.std.proofs.lemmas.Option.{slice_get_cases}
use Rattle.mud_world.specs.declared.record.Record.{Record}
use Rattle.mud_world.specs.Sound.{IsRising}
use Rattle.mud_world.specs.inner.Edits.{edit}
use Rattle.mud_world.specs.inner.Slots.{entries_from, entries_of}

-- the record of a slot, if there is the slot and it has one
abbrev pub in_slot : List (Option Record) → ℕ → Option Record
in_slot slots k = option_and_then (λ v. v) (slice_get slots k)

-- a number below the first slot is no record's
below : (n q : ℕ) (slots : List (Option Record)) → q < n → lookup (nat_eq q) (entries_from n slots) ≡ None
below n q [] less = refl
below n q (Some r ∷ slots) less =
    ap (λ b. cond b (Some r) (lookup (nat_eq q) (entries_from (n + 1) slots)))
    (ne_eqb q n (λ same. absurd (omega (arith, same))))
    ∙ below (n + 1) q slots (omega arith)
below n q (None ∷ slots) less = below (n + 1) q slots (omega arith)

-- ---- look-ups
pub slot-lookup : (n k q : ℕ) (slots : List (Option Record)) → q ≡ n + k
    → lookup (nat_eq q) (entries_from n slots) ≡ in_slot slots k
slot-lookup n k q [] at = refl
slot-lookup n zero q (Some r ∷ slots) at =
    ap (λ b. cond b (Some r) (lookup (nat_eq q) (entries_from (n + 1) slots))) (eq-eqb q n (omega (arith, at)))
slot-lookup n (suc k) q (Some r ∷ slots) at =
    ap (λ b. cond b (Some r) (lookup (nat_eq q) (entries_from (n + 1) slots)))
    (ne_eqb q n (λ same. absurd (omega (arith, at, same))))
    ∙ slot-lookup (n + 1) k q slots (omega (arith, at))
slot-lookup n zero q (None ∷ slots) at = below (n + 1) q slots (omega (arith, at))
slot-lookup n (suc k) q (None ∷ slots) at = slot-lookup (n + 1) k q slots (omega (arith, at))

pub number-lookup : (k : ℕ) (slots : List (Option Record)) → lookup (nat_eq k) (entries_of slots) ≡ in_slot slots k
number-lookup k slots = slot-lookup 0 k k slots (omega arith)

-- ---- another record in a slot that has one
slot-set : (n k q : ℕ) (r : Record) (slots : List (Option Record)) (s : Record) → q ≡ n + k
    → slice_get slots k ≡ Some (Some r)
    → set_value (nat_eq q) (entries_from n slots) s ≡ entries_from n (slice_set slots k (Some s))
slot-set n k q r [] s at there = absurd (let bad : None ≡ Some (Some r) = there in cc)
slot-set n zero q r (Some t ∷ slots) s at there =
    ap (λ b. cond b ((n, s) ∷ entries_from (n + 1) slots)
    ((n, t) ∷ set_value (nat_eq q) (entries_from (n + 1) slots) s))
    (eq-eqb q n (omega (arith, at)))
slot-set n (suc k) q r (Some t ∷ slots) s at there =
    ap (λ b. cond b ((n, s) ∷ entries_from (n + 1) slots)
    ((n, t) ∷ set_value (nat_eq q) (entries_from (n + 1) slots) s))
    (ne_eqb q n (λ same. absurd (omega (arith, at, same))))
    ∙ ap (λ es. (n, t) ∷ es) (slot-set (n + 1) k q r slots s (omega (arith, at)) there)
slot-set n zero q r (None ∷ slots) s at there = absurd (let bad : Some None ≡ Some (Some r) = there in cc)
slot-set n (suc k) q r (None ∷ slots) s at there = slot-set (n + 1) k q r slots s (omega (arith, at)) there

-- an edit of the record of a slot
pub slot-edit : (k : ℕ) (f : Record → Record) (slots : List (Option Record)) (v : Option Record)
    → slice_get slots k ≡ Some v → edit k f (entries_of slots) ≡ entries_of (slice_set slots k (option_map f v))
slot-edit k f slots (Some r) there =
    ap (λ v. option_map_or (λ r. set_value (nat_eq k) (entries_of slots) (f r)) v (entries_of slots))
    (number-lookup k slots ∙ ap (option_and_then (λ v. v)) there)
    ∙ slot-set 0 k k r slots (f r) (omega arith) there
slot-edit k f slots None there =
    ap (λ v. option_map_or (λ r. set_value (nat_eq k) (entries_of slots) (f r)) v (entries_of slots))
    (number-lookup k slots ∙ ap (option_and_then (λ v. v)) there)
    ∙ ap entries_of (sym (set-again slots k None there))
  where
    set-again : (xs : List (Option Record)) (k : ℕ) (v : Option Record) → slice_get xs k ≡ Some v
        → slice_set xs k v ≡ xs
    set-again [] k v at = refl
    set-again (x ∷ xs) zero v at = let same : x ≡ v = cc in ap (λ y. y ∷ xs) (sym same)
    set-again (x ∷ xs) (suc k) v at = ap (λ ys. x ∷ ys) (set-again xs k v at)

-- there is nothing to edit behind the last slot
pub no-edit : (k : ℕ) (f : Record → Record) (slots : List (Option Record)) → slice_get slots k ≡ None
    → edit k f (entries_of slots) ≡ entries_of slots
no-edit k f slots past =
    ap (λ v. option_map_or (λ r. set_value (nat_eq k) (entries_of slots) (f r)) v (entries_of slots))
    (number-lookup k slots ∙ ap (option_and_then (λ v. v)) past)

-- ---- no record in a slot any more
kept-below : (n q : ℕ) (slots : List (Option Record)) → q < n
    → remove_entry (nat_eq q) (entries_from n slots) ≡ entries_from n slots
kept-below n q [] less = refl
kept-below n q (Some r ∷ slots) less =
    ap (λ b. cond b (entries_from (n + 1) slots) ((n, r) ∷ remove_entry (nat_eq q) (entries_from (n + 1) slots)))
    (ne_eqb q n (λ same. absurd (omega (arith, same))))
    ∙ ap (λ es. (n, r) ∷ es) (kept-below (n + 1) q slots (omega arith))
kept-below n q (None ∷ slots) less = kept-below (n + 1) q slots (omega arith)

slot-empty : (n k q : ℕ) (slots : List (Option Record)) → q ≡ n + k
    → remove_entry (nat_eq q) (entries_from n slots) ≡ entries_from n (slice_set slots k None)
slot-empty n k q [] at = refl
slot-empty n zero q (Some r ∷ slots) at =
    ap (λ b. cond b (entries_from (n + 1) slots) ((n, r) ∷ remove_entry (nat_eq q) (entries_from (n + 1) slots)))
    (eq-eqb q n (omega (arith, at)))
slot-empty n (suc k) q (Some r ∷ slots) at =
    ap (λ b. cond b (entries_from (n + 1) slots) ((n, r) ∷ remove_entry (nat_eq q) (entries_from (n + 1) slots)))
    (ne_eqb q n (λ same. absurd (omega (arith, at, same))))
    ∙ ap (λ es. (n, r) ∷ es) (slot-empty (n + 1) k q slots (omega (arith, at)))
slot-empty n zero q (None ∷ slots) at = kept-below (n + 1) q slots (omega (arith, at))
slot-empty n (suc k) q (None ∷ slots) at = slot-empty (n + 1) k q slots (omega (arith, at))

pub emptied : (k : ℕ) (slots : List (Option Record))
    → remove_entry (nat_eq k) (entries_of slots) ≡ entries_of (slice_set slots k None)
emptied k slots = slot-empty 0 k k slots (omega arith)

-- ---- what a look-up in a vector found
pub none-past : (slots : List (Option Record)) (k : ℕ) → (k < length slots → ⊥) → slice_get slots k ≡ None
none-past slots k far =
    ⊎_elim (λ within. absurd (far within.1)) (λ past. past.1) (slice_get_cases slots k).1

-- ---- slots behind the last record
no-slot : (n : ℕ) (slots : List (Option Record))
    → entries_from n (slots ++ None ∷ []) ≡ entries_from n slots
no-slot n [] = refl
no-slot n (Some r ∷ slots) = ap (λ es. (n, r) ∷ es) (no-slot (n + 1) slots)
no-slot n (None ∷ slots) = no-slot (n + 1) slots

pub one-empty : (slots : List (Option Record)) → entries_of (slots ++ None ∷ []) ≡ entries_of slots
one-empty slots = no-slot 0 slots

last-slot : (n : ℕ) (r : Record) (slots : List (Option Record))
    → entries_from n (slots ++ Some r ∷ []) ≡ entries_from n slots ++ (n + length slots, r) ∷ []
last-slot n r [] = ap (λ k. (k, r) ∷ []) (omega arith)
last-slot n r (Some s ∷ slots) =
    ap (λ es. (n, s) ∷ es)
    (last-slot (n + 1) r slots ∙ ap (λ k. entries_from (n + 1) slots ++ (k, r) ∷ []) (omega arith))
last-slot n r (None ∷ slots) =
    last-slot (n + 1) r slots ∙ ap (λ k. entries_from (n + 1) slots ++ (k, r) ∷ []) (omega arith)

pub one-more : (k : ℕ) (r : Record) (slots : List (Option Record)) → k ≡ length slots
    → entries_of (slots ++ Some r ∷ []) ≡ entries_of slots ++ (k, r) ∷ []
one-more k r slots same =
    last-slot 0 r slots ∙ ap (λ n. entries_of slots ++ (n, r) ∷ []) (omega (arith, same))

rises-to : (low high : ℕ) (es : List (ℕ × Record)) → IsRising low es high → low ≤ high
rises-to low high [] rises = rises
rises-to low high (e ∷ es) rises = let more = rises-to (e.0 + 1) high es rises.1 in omega (arith, more, rises.0)

none-above : (low n high : ℕ) (slots : List (Option Record)) → IsRising low (entries_from n slots) high → high ≤ n
    → entries_from n slots ≡ []
none-above low n high [] rises less = refl
none-above low n high (Some r ∷ slots) rises less =
    let more = rises-to (n + 1) high (entries_from (n + 1) slots) rises.1 in absurd (omega (arith, more, less))
none-above low n high (None ∷ slots) rises less = none-above low (n + 1) high slots rises (omega (arith, less))

front-slots : (low n k high : ℕ) (slots : List (Option Record)) → IsRising low (entries_from n slots) high
    → high ≡ n + k → entries_from n (take k slots) ≡ entries_from n slots
front-slots low n zero high [] rises at = refl
front-slots low n (suc k) high [] rises at = refl
front-slots low n zero high (v ∷ slots) rises at = sym (none-above low n high (v ∷ slots) rises (omega (arith, at)))
front-slots low n (suc k) high (Some r ∷ slots) rises at =
    ap (λ es. (n, r) ∷ es) (front-slots (n + 1) (n + 1) k high slots rises.1 (omega (arith, at)))
front-slots low n (suc k) high (None ∷ slots) rises at =
    front-slots low (n + 1) k high slots rises (omega (arith, at))

-- below their limit the records keep their slots
pub cut-slots : (k : ℕ) (slots : List (Option Record)) → IsRising 0 (entries_of slots) k
    → entries_of (take k slots) ≡ entries_of slots
cut-slots k slots rises = front-slots 0 0 k k slots rises (omega arith)

-- a slot behind the last one is not set
pub past-same : (slots : List (Option Record)) (k : ℕ) (v : Option Record) → slice_get slots k ≡ None
    → slice_set slots k v ≡ slots
past-same [] k v past = refl
past-same (x ∷ slots) zero v past = absurd (let bad : Some x ≡ None = past in cc)
past-same (x ∷ slots) (suc k) v past = ap (λ ys. x ∷ ys) (past-same slots k v past)
