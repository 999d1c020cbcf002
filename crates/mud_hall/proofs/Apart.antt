-- The differences between the calls of a desk and the entries with its number.
use Rattle.std.proofs.Common.{◌≡◌, ℕ, ◌+◌, ◌≤◌, ◌<◌, Bool, true, false, List, [], ◌∷◌, ◌++◌, length, drop, get_or}
use Rattle.std.proofs.Common.{inl, inr, ◌⊎◌, Option, Some, None, refl, sym, ap, ◌∙◌, arith}
use Rattle.std.proofs.lemmas.Bool.Decides.{nat_tests}
use Rattle.std.proofs.lemmas.List.{drop_more, drop_all}
use Rattle.std.proofs.lemmas.Option.{none-some, slice_get-get_or}
use Rattle.std.specs.Prelude.{All, ◌==◌, nat_lt, if◌then◌else◌}
use Rattle.mud_chron.specs.Entry.{Entry}
use Rattle.mud_hall.specs.Desk.{View}
use Rattle.mud_hall.specs.Settlement.{versions_by, first_apart}
use Rattle.mud_hall.specs.inner.CheckFaults.{lesser_of, IsLeast, Differs}
use Rattle.mud_hall.proofs.Least.{least_same, least_either, least_self, any_at, any_later, any_last, any_cases}

-- ---- one desk

-- the first difference between the calls from place `next` on and the entries from place i on
abbrev pub left : ℕ → ℕ → ℕ → ℕ → List ℕ → List Entry → Option ℕ
left n v i next calls es = first_apart (drop next calls) (versions_by n (i + v) (drop i es))

rest_at : {X : Type 0} (xs : List X) (i : ℕ) (x : X) → i < length xs → x ≡ get_or xs i x
    → drop i xs ≡ x ∷ drop (i + 1) xs
rest_at xs i x lt at = drop_more xs i x lt ∙ ap (λ y. y ∷ drop (i + 1) xs) (sym at)

-- the versions from a place on, if the entry there is the desk's, and if it is another's
own : (n v i : ℕ) (es : List Entry) (e : Entry) → i < length es → e ≡ get_or es i e → e.desk ≡ n
    → versions_by n (i + v) (drop i es) ≡ (i + v) ∷ versions_by n ((i + 1) + v) (drop (i + 1) es)
own n v i es e lt at is =
    let yes : (e.desk == n) ≡ true = grind (arith, nat_tests) in
    let next : (i + v) + 1 ≡ (i + 1) + v = omega arith in
    ap (versions_by n (i + v)) (rest_at es i e lt at) ∙ rw (yes, next) refl

other : (n v i : ℕ) (es : List Entry) (e : Entry) → i < length es → e ≡ get_or es i e → (e.desk ≡ n → ⊥)
    → versions_by n (i + v) (drop i es) ≡ versions_by n ((i + 1) + v) (drop (i + 1) es)
other n v i es e lt at apart =
    let not : (e.desk == n) ≡ false = grind (arith, nat_tests) in
    let next : (i + v) + 1 ≡ (i + 1) + v = omega arith in
    ap (versions_by n (i + v)) (rest_at es i e lt at) ∙ rw (not, next) refl

-- the entry is another desk's
pub left_skip : (n v i next : ℕ) (calls : List ℕ) (es : List Entry) (e : Entry) → i < length es
    → e ≡ get_or es i e → (e.desk ≡ n → ⊥) → left n v (i + 1) next calls es ≡ left n v i next calls es
left_skip n v i next calls es e lt at apart = ap (first_apart (drop next calls)) (sym (other n v i es e lt at apart))

-- the entry is the next call
pub left_same : (n v i next : ℕ) (calls : List ℕ) (es : List Entry) (e : Entry) → i < length es
    → e ≡ get_or es i e → e.desk ≡ n → next < length calls → get_or calls next 0 ≡ i + v
    → left n v (i + 1) (next + 1) calls es ≡ left n v i next calls es
left_same n v i next calls es e lt at is room same =
    let yes : (get_or calls next 0 == (i + v)) ≡ true = grind (arith, nat_tests) in
    rw (drop_more calls next 0 room, own n v i es e lt at is) (rw yes refl)

-- the entry is not the next call
pub left_here : (n v i next : ℕ) (calls : List ℕ) (es : List Entry) (e : Entry) → i < length es
    → e ≡ get_or es i e → e.desk ≡ n → next < length calls → (get_or calls next 0 ≡ i + v → ⊥)
    → left n v i next calls es ≡ Some (if nat_lt (get_or calls next 0) (i + v) then get_or calls next 0 else (i + v))
left_here n v i next calls es e lt at is room apart =
    let not : (get_or calls next 0 == (i + v)) ≡ false = grind (arith, nat_tests) in
    rw (drop_more calls next 0 room, own n v i es e lt at is) (rw not refl)

-- there are no more calls
pub left_more : (n v i next : ℕ) (calls : List ℕ) (es : List Entry) (e : Entry) → i < length es
    → e ≡ get_or es i e → e.desk ≡ n → length calls ≤ next → left n v i next calls es ≡ Some (i + v)
left_more n v i next calls es e lt at is none = rw (drop_all next calls none, own n v i es e lt at is) refl

-- ---- all desks

same_none : (xs ys : List ℕ) → first_apart xs ys ≡ None → xs ≡ ys
same_none [] [] e = refl
same_none [] (w ∷ ws) e = absurd (none-some w (sym e))
same_none (v ∷ vs) [] e = absurd (none-some v (sym e))
same_none (v ∷ vs) (w ∷ ws) e = go (v == w) refl (same_none vs ws) e
  where
    go : (t : Bool) → (v == w) ≡ t → (first_apart vs ws ≡ None → vs ≡ ws)
        → (if t then first_apart vs ws else Some (if nat_lt v w then v else w)) ≡ None → v ∷ vs ≡ w ∷ ws
    go true is on none =
        let one : v ≡ w = grind (arith, nat_tests) in
        let rest : vs ≡ ws = on none in
        cc
    go false is on none = absurd (none-some (if nat_lt v w then v else w) (sym none))

-- one more desk
pub differs_more : (ds : List View) (d : View) (first : ℕ) (es : List Entry) (a here : Option ℕ)
    → IsLeast (Differs ds first es) a → here ≡ first_apart d.state.calls (versions_by d.state.number first es)
    → IsLeast (Differs (ds ++ d ∷ []) first es) (lesser_of a here)
differs_more ds d first es a here least is =
    let P : ℕ → View → Type 0 = λ v x. first_apart x.state.calls (versions_by x.state.number first es) ≡ Some v in
    let Q : ℕ → Type 0 = λ v. here ≡ Some v in
    least_same (λ v. Differs ds first es v ⊎ Q v) (Differs (ds ++ d ∷ []) first es) (lesser_of a here)
    (λ v h. elim h [ inl x ↦ any_later (P v) ds d x | inr y ↦ any_last (P v) ds d (sym is ∙ y) ])
    (λ v h. elim (any_cases (P v) ds d h) [ inl x ↦ inl x | inr y ↦ inr (is ∙ y) ])
    (least_either (Differs ds first es) Q a here least (least_self here))

-- if no desk differs, the calls of each are its entries
pub all_same : (ds : List View) (first : ℕ) (es : List Entry) → IsLeast (Differs ds first es) None
    → All (λ d. d.state.calls ≡ versions_by d.state.number first es) ds
all_same ds first es none k x lt = same (get_or ds k x) refl
  where
    none_apart : (d : View) → get_or ds k x ≡ d → (o : Option ℕ)
        → first_apart d.state.calls (versions_by d.state.number first es) ≡ o → o ≡ None
    none_apart d at None e = refl
    none_apart d at (Some v) e =
        let P : View → Type 0 = λ y. first_apart y.state.calls (versions_by y.state.number first es) ≡ Some v in
        absurd (none v (any_at P ds k d (slice_get-get_or ds k x lt ∙ ap Some at) e))

    same : (d : View) → get_or ds k x ≡ d → d.state.calls ≡ versions_by d.state.number first es
    same d at =
        let these : List ℕ = versions_by d.state.number first es in
        same_none d.state.calls these (none_apart d at (first_apart d.state.calls these) refl)
