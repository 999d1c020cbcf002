-- Each step of a pass keeps the claims true.
use Rattle.std.proofs.Common.{◌≡◌, ◌≢◌, ◌≤◌, ℕ, zero, suc, List, [], ◌∷◌, set, true, false}
use Rattle.std.proofs.Common.{true≢false, refl, sym, ◌∙◌, subst, ⊎_elim, arith}
use Rattle.std.specs.Prelude.{slice_index}
use mathlib.Core.Option.{some, some-ne-none, some-injective}
use lib.ListN.{get_elem?}
use Rattle.crossbeam_utils.specs.Register.{Turns, Forks, Merges}
use Rattle.atomic_table.proofs.Lists.{at_set, at_snoc, set_again}
use Rattle.mud_theorems.specs.declared.durable.Knowledge.{Knowledge}
use Rattle.mud_theorems.specs.inner.Durable.{knower, claimer, claim_of, with_claim, AreTrue, Raised, Compared}

-- what the rule says of one view
abbrev Fits : ℕ → ℕ → ℕ → Knowledge → Type 0
Fits seat count by v = (v.keeps ≡ true → (by ≡ seat) × (v.count ≡ count)) × (v.claims ≤ count)

fits_set : (seat now : ℕ) (views : List Knowledge) (by : ℕ) (w : Knowledge)
    → ((j : ℕ) (u : Knowledge) → j ≢ by → get_elem? views j ≡ some u → Fits seat now j u) → Fits seat now by w
    → (j : ℕ) (u : Knowledge) → get_elem? (set views by w) j ≡ some u → Fits seat now j u
fits_set seat now views by w others mine j u e =
    ⊎_elim
    (λ (x : (j ≡ by) × (w ≡ u)). subst (λ (y : ℕ × Knowledge). Fits seat now y.0 y.1) (λ i. (sym x.0 i, x.1 i)) mine)
    (λ (x : (j ≢ by) × (get_elem? views j ≡ some u)). others j u x.0 x.1)
    (at_set views by j w u e)

off : false ≡ true → ⊥
off e = true≢false (sym e)

pub none_claimed : (n : ℕ) → 0 ≤ n
none_claimed n = omega arith

pub begins : (words : List ℕ) → AreTrue words (knower 0 ∷ [])
begins words = (0, 0, one)
  where
    one : (by : ℕ) (v : Knowledge) → get_elem? (knower 0 ∷ []) by ≡ some v → Fits 0 0 by v
    one zero v e = subst (Fits 0 0 0) (some-injective _ _ e) ((λ _. (refl, refl)), none_claimed 0)
    one (suc by) v e = absurd (some-ne-none v (sym e))

raises : (by count : ℕ) (new : List ℕ) → count ≤ slice_index new 0 → Turns AreTrue by (knower count) (λ _. new) Raised
raises by count new more words views h at =
    let n : ℕ = slice_index new 0 in
    let own = (h.2 by (knower count) at).0 refl in
    let same : count ≡ h.1 = own.1 in
    let w : Knowledge = knower n in (
      w,
      (
        h.0,
        n,
        fits_set h.0 n views by w
            (λ j u apart e.
            let claims : u.claims ≤ h.1 = (h.2 j u e).1 in
            let few : u.claims ≤ n = omega (arith, claims, same, more) in
            ((λ k. absurd (apart (((h.2 j u e).0 k).0 ∙ sym own.0))), few))
            ((λ _. (own.0, refl)), none_claimed n),
      ),
      refl,
    )

pub compares_as : (by : ℕ) (v : Knowledge) → v.keeps ≡ true → Turns AreTrue by v (λ x. x) Compared
compares_as by v keeps words views h at =
    let mine = h.2 by v at in
    let own = mine.0 keeps in
    let claims : v.claims ≤ h.1 = mine.1 in
    let same : v.count ≡ h.1 = own.1 in
    let few : v.claims ≤ v.count = omega (arith, claims, same) in
    let w : Knowledge = record { keeps = v.keeps; count = v.count; claims = 0 } in
    (w, (h.0, h.1, fits_set h.0 h.1 views by w (λ j u apart e. h.2 j u e) ((λ _. own), none_claimed h.1)), (refl, few))

gives : (by count : ℕ) → Forks AreTrue by (knower count) (knower count) (claim_of (knower count))
gives by count words views h at =
    let own = (h.2 by (knower count) at).0 refl in
    let same : count ≡ h.1 = own.1 in
    let few : count ≤ h.1 = omega (arith, same) in (
      h.0,
      h.1,
      λ j u e.
          ⊎_elim
          (λ was. h.2 j u (subst (λ l. get_elem? l j ≡ some u) (set_again views by (knower count) at) was))
          (λ (given : claimer count ≡ u). subst (Fits h.0 h.1 j) given ((λ k. absurd (off k)), few))
          (at_snoc (set views by (knower count)) (claimer count) u j e),
    )

takes_in : (by count other : ℕ) (u : Knowledge)
    → Merges AreTrue by (knower count) other u (with_claim (knower count) u) (claimer 0)
takes_in by count other u words views h at apart there =
    let w : Knowledge = with_claim (knower count) u in
    let own = (h.2 by (knower count) at).0 refl in
    let theirs =
    ⊎_elim (λ (t : (other ≡ by) × (w ≡ u)). absurd (apart t.0))
    (λ (t : (other ≢ by) × (get_elem? views other ≡ some u)). h.2 other u t.1) (at_set views by other w u there) in (
      h.0,
      h.1,
      fits_set h.0 h.1 (set views by w) other (claimer 0)
          (λ j v _ e.
          fits_set h.0 h.1 views by w (λ i y _ e'. h.2 i y e') ((λ _. own), theirs.1) j v e)
          ((λ k. absurd (off k)), none_claimed h.1),
    )

-- the steps, at a view that is known
pub raises_as : (by : ℕ) (v : Knowledge) (count : ℕ) (new : List ℕ) → v ≡ knower count → count ≤ slice_index new 0
    → Turns AreTrue by v (λ _. new) Raised
raises_as by v count new is more =
    subst (λ (u : Knowledge). Turns AreTrue by u (λ _. new) Raised) (sym is) (raises by count new more)

pub gives_as : (by : ℕ) (v : Knowledge) (count : ℕ) → v ≡ knower count → Forks AreTrue by v v (claim_of v)
gives_as by v count is = subst (λ (u : Knowledge). Forks AreTrue by u u (claim_of u)) (sym is) (gives by count)

pub takes_in_as : (by : ℕ) (v : Knowledge) (count other : ℕ) (u : Knowledge) → v ≡ knower count
    → Merges AreTrue by v other u (with_claim v u) (claimer 0)
takes_in_as by v count other u is =
    subst (λ (x : Knowledge). Merges AreTrue by x other u (with_claim x u) (claimer 0)) (sym is)
    (takes_in by count other u)
