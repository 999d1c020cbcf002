-- The claims of a member's labels.
use Rattle.std.proofs.Common.{◌≡◌, ℕ, ◌<◌, ◌≤◌, inl, inr, List, [], ◌∷◌, ◌++◌, length, get_or, Option, None, Some}
use Rattle.std.proofs.Common.{◌*◌, sym, ◌∙◌, ap, subst, arith}
use Rattle.std.proofs.Common.{Vec, Global}
use Rattle.std.specs.Prelude.{All, IfSome, option_map}
use Rattle.std.proofs.lemmas.List.Elements.{All-map}
use Rattle.std.proofs.lemmas.Bool.{cases_eq}
use Rattle.std.proofs.lemmas.List.{get_or_append_left, length_push}
use Rattle.std.proofs.Math.Seq.{get_or-append_seam}
use Rattle.mud_key.specs.declared.limits.TheConstants.{LAST_NUMBER}
use Rattle.mud_world.specs.declared.limits.TheConstants.{NUMBERS, MOST_COST}
use Rattle.mud_roads.specs.declared.label.Label.{Label}
use Rattle.mud_roads.specs.declared.label.Step.{Step}
use Rattle.mud_search.specs.Least.{AreLabelsBelow}
use Rattle.mud_cert.specs.Certificate.{Account, IsNumber}
use Rattle.mud_cert.specs.inner.Lines.{IsEntry}
use Rattle.mud_guide.specs.Legs.{Leg}
use Rattle.mud_guide.specs.Ways.{exits_of}
use Rattle.mud_guide.specs.inner.Listings.{IsListed}

-- the entries are within the limits of a certificate
pub entries-limits : (labels : ℕ → Option Label) (next : ℕ) (es : List (ℕ × Label))
    → next ≤ NUMBERS → AreLabelsBelow labels next es
    → ((room : ℕ) (l : Label) → labels room ≡ Some l → (l.cost ≤ MOST_COST * LAST_NUMBER) × (l.exits ≤ LAST_NUMBER))
    → All IsEntry es
entries-limits labels next es few are bounded k d h =
    let e = are.inside k d h in
    let b = bounded (get_or es k d).0 (get_or es k d).1 e.1 in
    (omega (arith, e.0), omega (arith, b.0), omega (arith, b.1))

-- so are the exits of a way
pub exits-limits : (next : ℕ) (way : Option (List Step)) (walk : Option (Vec ℕ Global)) → next ≤ NUMBERS
    → IfSome way (All (λ s. s.exit < next))
    → option_map (λ w. w.items) walk ≡ option_map exits_of way → IfSome (option_map (λ w. w.items) walk) (All IsNumber)
exits-limits next way walk few inside is =
    let P : Option (List ℕ) → Type 0 = λ o. IfSome o (All IsNumber) in
    subst P (sym is) (go way inside)
  where
    go : (way : Option (List Step)) → IfSome way (All (λ s. s.exit < next))
        → IfSome (option_map exits_of way) (All IsNumber)
    go None h = tt
    go (Some ss) h = All-map IsNumber (λ (s : Step). s.exit) ss (λ k d lt. omega (arith, h k d lt))

-- one more account
pub listed-push : (labels : ℕ → ℕ → Option Label) (next : ℕ) (js : List Leg) (es : List Account) (n : ℕ)
    (e : Account) → length es ≡ n
    → ((m : ℕ) (j : Leg) (a : Account) → m < length es → IsListed (labels m) next (get_or js m j) (get_or es m a))
    → ((j : Leg) → IsListed (labels n) next (get_or js n j) e)
    → (m : ℕ) (j : Leg) (a : Account) → m < length (es ++ e ∷ [])
    → IsListed (labels m) next (get_or js m j) (get_or (es ++ e ∷ []) m a)
listed-push labels next js es n e long each last m j a h =
    elim (cases_eq m n) [
      | inl same ↦
          let P : ℕ → Type 0 = λ i. IsListed (labels i) next (get_or js i j) (get_or (es ++ e ∷ []) i a) in
          let Q : Account → Type 0 = λ x. IsListed (labels n) next (get_or js n j) x in
          let at : get_or (es ++ e ∷ []) n a ≡ e =
          ap (λ (i : ℕ). get_or (es ++ e ∷ []) i a) (sym long) ∙ get_or-append_seam es e [] a in
          subst P (sym same) (subst Q (sym at) (last j))
      | inr apart ↦
          let inside : m < length es = omega (arith, length_push es e) in
          let Q : Account → Type 0 = λ x. IsListed (labels m) next (get_or js m j) x in
          subst Q (sym (get_or_append_left es (e ∷ []) a m inside)) (each m j a inside)
    ]
