-- The results of scanning the desks: numbers that two desks have, entries that belong to none, and the entries that
-- they know together.
use Rattle.std.proofs.Common.{◌≡◌, ◌⊎◌, inl, inr, ℕ, zero, suc, ◌+◌, ◌≤◌, ◌<◌, Bool, true, false, List, [], ◌∷◌}
use Rattle.std.proofs.Common.{◌++◌, length, take, get_or, Option, Some, None, slice_get, refl, sym, ap, ◌∙◌, subst}
use Rattle.std.proofs.Common.{arith}
use Rattle.std.proofs.lemmas.Bool.Decides.{nat_tests}
use Rattle.std.proofs.Math.Seq.{take-append_seam}
use Rattle.std.proofs.lemmas.List.{get_or-take, length-take-le, take-append-le}
use Rattle.std.proofs.lemmas.List.Elements.{All-push}
use Rattle.std.proofs.lemmas.Option.{slice_get_within, slice_get_read, slice_get-get_or, get_or_from_slice_get}
use Rattle.std.specs.Prelude.{All, Any, ◌==◌, nat_lt}
use mathlib.Core.List.{IsPrefix}
use Rattle.mud_chron.specs.Entry.{Entry}
use Rattle.mud_hall.specs.declared.fault.CloseFault.{CloseFault}
use Rattle.mud_hall.specs.declared.fault.CloseFault.TheVariants.{OutOfMemory, SameNumber, Missing, Mismatch}
use Rattle.mud_hall.specs.Desk.{View}
use Rattle.mud_hall.specs.Settlement.{entries_made, HasNumber, AreApart, HaveSameNumber, IsGathered, IsCloseFault}
use Rattle.mud_hall.specs.inner.CheckFaults.{lesser_of, IsLeast, IsUnnamed, IsCheckFault}
use Rattle.mud_hall.proofs.Least.{least_same, least_either, lesser_none, front, last, at_or_last}
use Rattle.mud_hall.proofs.Least.{any_later, any_last}
use Rattle.mud_hall.proofs.Lists.{all_weaken}
use Rattle.mud_hall.proofs.Seats.{prefix_trans}

-- ---- two desks with one number

-- a number of two desks belongs to two before the last, or to the last and one before it
abbrev Twice : List View → View → ℕ → Type 0
Twice ds d m = HaveSameNumber ds m ⊎ (HasNumber ds m × (d.state.number ≡ m))

twice_later : (ds : List View) (d : View) (m : ℕ) → Twice ds d m → HaveSameNumber (ds ++ d ∷ []) m
twice_later ds d m (inl h) =
    let lt : h.0 < length ds = slice_get_within ds h.0 h.1 h.2 in
    let whole : take h.0 (ds ++ d ∷ []) ≡ take h.0 ds = take-append-le h.0 ds (d ∷ []) (omega (arith, lt)) in
    (h.0, h.1, front ds d h.0 lt ∙ h.2, h.3, subst (λ xs. HasNumber xs m) (sym whole) h.4)
twice_later ds d m (inr h) =
    (length ds, d, last ds d, h.1, subst (λ xs. HasNumber xs m) (sym (take-append_seam ds (d ∷ []))) h.0)

twice_cases : (ds : List View) (d : View) (m : ℕ) → HaveSameNumber (ds ++ d ∷ []) m → Twice ds d m
twice_cases ds d m h =
    let P : List View → Type 0 = λ xs. HasNumber xs m in
    let Q : View → Type 0 = λ x. x.state.number ≡ m in
    elim (at_or_last ds d h.1 h.0 h.2) [
      | inl w ↦
          let whole : take h.0 (ds ++ d ∷ []) ≡ take h.0 ds = take-append-le h.0 ds (d ∷ []) (omega (arith, w.0)) in
          inl (h.0, h.1, w.1, h.3, subst P whole h.4)
      | inr w ↦
          let whole : take h.0 (ds ++ d ∷ []) ≡ ds =
          ap (λ k. take k (ds ++ d ∷ [])) w.0 ∙ take-append_seam ds (d ∷ []) in
          inr (subst P whole h.4, subst Q (sym w.1) h.3)
    ]

-- one more desk, with a number that an earlier one has
pub twice_more : (ds : List View) (d : View) (a : Option ℕ) → IsLeast (HaveSameNumber ds) a
    → HasNumber ds d.state.number → IsLeast (HaveSameNumber (ds ++ d ∷ [])) (lesser_of a (Some d.state.number))
twice_more ds d a least has =
    let n : ℕ = d.state.number in
    let Q : ℕ → Type 0 = λ m. HasNumber ds m × (n ≡ m) in
    least_same (Twice ds d) (HaveSameNumber (ds ++ d ∷ [])) (lesser_of a (Some n)) (twice_later ds d) (twice_cases ds d)
    (least_either (HaveSameNumber ds) Q a (Some n) least ((has, refl), λ u q. omega (arith, q.1)))

-- one more desk, with a number that no earlier one has
pub twice_same : (ds : List View) (d : View) (a : Option ℕ) → IsLeast (HaveSameNumber ds) a
    → (HasNumber ds d.state.number → ⊥) → IsLeast (HaveSameNumber (ds ++ d ∷ [])) a
twice_same ds d a least none =
    let Q : ℕ → Type 0 = λ m. HasNumber ds m × (d.state.number ≡ m) in
    let both : IsLeast (Twice ds d) (lesser_of a None) =
    least_either (HaveSameNumber ds) Q a None least (λ u q. none (subst (HasNumber ds) (sym q.1) q.0)) in
    least_same (Twice ds d) (HaveSameNumber (ds ++ d ∷ [])) a (twice_later ds d) (twice_cases ds d)
    (subst (IsLeast (Twice ds d)) (lesser_none a) both)

-- if no number belongs to two desks, all numbers differ
pub all_apart : (ds : List View) → IsLeast (HaveSameNumber ds) None
    → AreApart ds
all_apart ds none i j d lt within same =
    let x : View = get_or ds i d in
    let less : i < length (take j ds) = omega (arith, lt, length-take-le j ds (omega (arith, within))) in
    let at : get_or (take j ds) i x ≡ x =
    get_or-take j ds i x lt ∙ get_or_from_slice_get ds i x x (slice_get-get_or ds i d (omega (arith, lt, within))) in
    none x.state.number (j, get_or ds j d, slice_get-get_or ds j d within, sym same, (i, x, less, at, refl))

-- ---- entries with the number of no desk

-- the entry at place i is the first one
pub unnamed_here : (ds : List View) (first i : ℕ) (es : List Entry) (e : Entry)
    → All (λ x. HasNumber ds x.desk) (take i es) → i < length es → e ≡ get_or es i e → (HasNumber ds e.desk → ⊥)
    → IsLeast (IsUnnamed ds first es) (Some (i + first))
unnamed_here ds first i es e all lt at none =
    ((i, e, omega arith, slice_get_read es (length es) i e refl lt at, none), λ u h. earlier u h)
  where
    named : (k : ℕ) (x : Entry) → k < i → slice_get es k ≡ Some x → HasNumber ds x.desk
    named k x less here =
        let same : get_or (take i es) k x ≡ x = get_or-take i es k x less ∙ get_or_from_slice_get es k x x here in
        let within : k < length (take i es) = omega (arith, less, lt, length-take-le i es (omega arith)) in
        subst (λ (y : Entry). HasNumber ds y.desk) same (all k x within)

    earlier : (u : ℕ) → IsUnnamed ds first es u → i + first ≤ u
    earlier u (k, x, so, here, apart) = go (nat_lt k i) refl
      where
        go : (t : Bool) → nat_lt k i ≡ t → i + first ≤ u
        go true w =
            let less : k < i = grind (arith, nat_tests) in
            absurd (apart (named k x less here))
        go false w =
            let most : i ≤ k = grind (arith, nat_tests) in
            omega (arith, so, most)

pub unnamed_none : (ds : List View) (first : ℕ) (es : List Entry) → All (λ x. HasNumber ds x.desk) es
    → IsLeast (IsUnnamed ds first es) None
unnamed_none ds first es all u (k, x, so, here, none) =
    let same : get_or es k x ≡ x = get_or_from_slice_get es k x x here in
    none (subst (λ (y : Entry). HasNumber ds y.desk) same (all k x (slice_get_within es k x here)))

-- some desk has a number, or none has it
has_cases : (ds : List View) (n : ℕ) → HasNumber ds n ⊎ (HasNumber ds n → ⊥)
has_cases [] n = inr (λ h. absurd (omega (arith, h.2)))
has_cases (d ∷ ds) n = go (d.state.number == n) refl (has_cases ds n)
  where
    go : (t : Bool) → (d.state.number == n) ≡ t → HasNumber ds n ⊎ (HasNumber ds n → ⊥)
        → HasNumber (d ∷ ds) n ⊎ (HasNumber (d ∷ ds) n → ⊥)
    go true e rest =
        let is : d.state.number ≡ n = grind (arith, nat_tests) in
        inl (zero, d, omega arith, refl, is)
    go false e (inl (k, x, lt, at, p)) = inl (suc k, x, omega arith, at, p)
    go false e (inr none) = inr other
      where
        apart : d.state.number ≡ n → ⊥
        apart is = grind (arith, nat_tests, is)

        other : HasNumber (d ∷ ds) n → ⊥
        other (zero, x, lt, at, p) = apart (ap (λ (y : View). y.state.number) at ∙ p)
        other (suc k, x, lt, at, p) = none (k, x, omega arith, at, p)

pub all_named : (ds : List View) (first : ℕ) (es : List Entry) → IsLeast (IsUnnamed ds first es) None
    → All (λ x. HasNumber ds x.desk) es
all_named ds first es none k d lt = elim (has_cases ds (get_or es k d).desk) [
  | inl has ↦ has
  | inr apart ↦ absurd (none (first + k) (k, get_or es k d, refl, slice_get-get_or es k d lt, apart))
]

-- ---- the longest prefix

-- one more desk adds what it knows
pub gathered_more : (loaded : List Entry) (ds : List View) (d : View) (h more : List Entry)
    → IsGathered loaded ds h → (more ≡ h) ⊎ (more ≡ d.state.seen) → IsPrefix h more → IsPrefix d.state.seen more
    → IsGathered loaded (ds ++ d ∷ []) more
gathered_more loaded ds d h more old is on mine =
    let was : View → Type 0 = λ x. IsPrefix x.state.seen h in
    let knows : View → Type 0 = λ x. IsPrefix x.state.seen more in
    let on_each : (x : View) → was x → knows x = λ x p. prefix_trans x.state.seen h more p on in
    record {
      begun = prefix_trans loaded h more old.begun on;
      known = All-push knows ds d (all_weaken was knows ds on_each old.known) mine;
      some = whose is old.some;
    }
  where
    whose : (more ≡ h) ⊎ (more ≡ d.state.seen) → (h ≡ loaded) ⊎ Any (λ (x : View). h ≡ x.state.seen) ds
        → (more ≡ loaded) ⊎ Any (λ (x : View). more ≡ x.state.seen) (ds ++ d ∷ [])
    whose (inl same) (inl first) = inl (same ∙ first)
    whose (inl same) (inr one) = inr (any_later (λ (x : View). more ≡ x.state.seen) ds d
        (subst (λ (w : List Entry). Any (λ (x : View). w ≡ x.state.seen) ds) (sym same) one))
    whose (inr its) rest = inr (any_last (λ (x : View). more ≡ x.state.seen) ds d its)

-- a result of scanning the desks is a fault of the settlement
pub fault_of : (loaded : List Entry) (desks : List View) (history : List Entry) (f : CloseFault)
    → IsGathered loaded desks history → IsCheckFault desks (length loaded + 1) (entries_made loaded history) f
    → IsCloseFault loaded desks f
fault_of loaded desks history OutOfMemory whole found = tt
fault_of loaded desks history (SameNumber n) whole found = found
fault_of loaded desks history (Missing n) whole found = found
fault_of loaded desks history (Mismatch v) whole found =
    (found.0, record { history = history; gathered = whole; odds = found.1.0; least = found.1.1 })
