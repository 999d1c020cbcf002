-- The texts of all records, one number after another.
use Rattle.std.proofs.Common.{◌≡◌, ℕ, ◌+◌, ◌-◌, ◌<◌, ◌≤◌, ◌++◌, ◌∙◌, List, [], ◌∷◌, Some, zero, suc}
use Rattle.std.proofs.Common.{refl, sym, ap, subst, arith, append_assoc, cond, ⊎_elim}
use Rattle.std.specs.Prelude.{nat_eq}
use Rattle.std.specs.List.{flat_map, range_with_len}
use Rattle.std.specs.Map.{lookup}
use Rattle.std.specs.Option.{option_map_or}
use Rattle.std.proofs.lemmas.Bool.{eq-eqb, ne_eqb, cases_order}
use Rattle.mud_world.proofs.Records.{in_bounds}
use Rattle.mud_world.proofs.Removing.{lookup-below}
use Rattle.mud_world.specs.declared.record.Record.{Record}
use Rattle.mud_world.specs.Sound.{IsRising}

-- the text of a number: that of its record, if there is one
abbrev pub text_at : (ℕ → Record → List ℕ) → List (ℕ × Record) → ℕ → List ℕ
text_at f es n = option_map_or (f n) (lookup (nat_eq n) es) []

-- the first record is found
pub found-first : (e : ℕ × Record) (es : List (ℕ × Record)) → lookup (nat_eq e.0) (e ∷ es) ≡ Some e.1
found-first e es = ap (λ b. cond b (Some e.1) (lookup (nat_eq e.0) es)) (eq-eqb e.0 e.0 refl)

-- texts that agree from a number on
agreeing : (f g : ℕ → List ℕ) (a k : ℕ) → ((n : ℕ) → a ≤ n → f n ≡ g n)
    → flat_map f (range_with_len a k) ≡ flat_map g (range_with_len a k)
agreeing f g a zero same = refl
agreeing f g a (suc k) same =
    ap (λ v. v ++ flat_map f (range_with_len (a + 1) k)) (same a (omega arith))
    ∙ ap (λ v. g a ++ v) (agreeing f g (a + 1) k (λ n le. same n (omega (arith, le))))

-- after the first record, beyond its number
past-first : (f : ℕ → Record → List ℕ) (e : ℕ × Record) (es : List (ℕ × Record)) (n : ℕ) → e.0 < n
    → text_at f (e ∷ es) n ≡ text_at f es n
past-first f e es n less =
    ap (λ b. option_map_or (f n) (cond b (Some e.1) (lookup (nat_eq n) es)) [])
    (ne_eqb n e.0 (λ same. omega (arith, less, same)))

at-first : (f : ℕ → Record → List ℕ) (e : ℕ × Record) (es : List (ℕ × Record)) (n : ℕ) → n ≡ e.0
    → text_at f (e ∷ es) n ≡ f e.0 e.1
at-first f e es n here =
    ap (text_at f (e ∷ es)) here ∙ ap (λ o. option_map_or (f e.0) o []) (found-first e es)

-- the texts of all numbers are the texts of the records
pub each : (f : ℕ → Record → List ℕ) (k low high : ℕ) (es : List (ℕ × Record)) → low + k ≡ high
    → IsRising low es high → flat_map (text_at f es) (range_with_len low k) ≡ flat_map (λ e. f e.0 e.1) es
each f zero low high [] is rises = refl
each f zero low high (e ∷ es) is rises =
    let first = in_bounds low high e.0 e.1 (e ∷ es) rises (found-first e es) in
    absurd (omega (arith, first.0, first.1, is))
each f (suc k) low high [] is rises = each f k (low + 1) high [] (omega (arith, is)) (omega (arith, is))
each f (suc k) low high (e ∷ es) is rises =
    ⊎_elim
    (λ (here : low ≡ e.0).
    ap (λ v. v ++ flat_map (text_at f (e ∷ es)) (range_with_len (low + 1) k)) (at-first f e es low here)
    ∙ ap (λ v. f e.0 e.1 ++ v)
    (agreeing (text_at f (e ∷ es)) (text_at f es) (low + 1) k
    (λ n le. past-first f e es n (omega (arith, le, here)))
    ∙ each f k (low + 1) high es (omega (arith, is)) (subst (λ m. IsRising (m + 1) es high) (sym here) rises.1)))
    (λ other. ⊎_elim
    (λ (less : low < e.0).
    ap (λ o. option_map_or (f low) o [] ++ flat_map (text_at f (e ∷ es)) (range_with_len (low + 1) k))
    (lookup-below low e.0 high (e ∷ es) (omega arith, rises.1) less)
    ∙ each f k (low + 1) high (e ∷ es) (omega (arith, is)) (omega (arith, less), rises.1))
    (λ (less : e.0 < low). absurd (let le = rises.0 in omega (arith, less, le)))
    other)
    (cases_order low e.0)

-- the texts of the numbers from n on begin with that of n
next_row : (f : ℕ → List ℕ) (n end : ℕ) → n < end
    → f n ++ flat_map f (range_with_len (n + 1) (end - (n + 1))) ≡ flat_map f (range_with_len n (end - n))
next_row f n end less = go (end - n) (end - (n + 1)) (omega arith)
  where
    go : (k j : ℕ) → k ≡ j + 1
        → f n ++ flat_map f (range_with_len (n + 1) j) ≡ flat_map f (range_with_len n k)
    go zero j e = absurd (omega arith)
    go (suc k) j e =
        let same : j ≡ k = omega arith in
        ap (λ i. f n ++ flat_map f (range_with_len (n + 1) i)) same

-- with the text of n appended, the remaining texts are those from n + 1 on
pub one_more : (f : ℕ → List ℕ) (n end : ℕ) (old new whole : List ℕ) → n < end
    → old ++ flat_map f (range_with_len n (end - n)) ≡ whole → new ≡ old ++ f n
    → new ++ flat_map f (range_with_len (n + 1) (end - (n + 1))) ≡ whole
one_more f n end old new whole less is more =
    ap (λ v. v ++ flat_map f (range_with_len (n + 1) (end - (n + 1)))) more
    ∙ append_assoc old (f n) (flat_map f (range_with_len (n + 1) (end - (n + 1))))
    ∙ ap (λ v. old ++ v) (next_row f n end less) ∙ is

-- at first, the texts of all numbers remain
pub all_left : (f : ℕ → Record → List ℕ) (old : List ℕ) (es : List (ℕ × Record)) (high : ℕ) → IsRising 0 es high
    → old ++ flat_map (text_at f es) (range_with_len 0 (high - 0)) ≡ old ++ flat_map (λ e. f e.0 e.1) es
all_left f old es high rises =
    let whole : 0 + (high - 0) ≡ high = omega arith in
    ap (λ v. old ++ v) (each f (high - 0) 0 high es whole rises)
