-- The labels of the numbers below one, sorted by number: the effect of one more number.
use Rattle.std.proofs.Common.{◌≡◌, ℕ, ◌+◌, ◌<◌, ◌≤◌, inl, inr, List, [], ◌∷◌, ◌++◌, Option, None, Some}
use Rattle.std.proofs.Common.{sym, ◌∙◌, ap, subst, arith}
use Rattle.std.specs.Prelude.{Contains}
use Rattle.std.proofs.lemmas.Bool.{cases_eq, cases_lt}
use Rattle.std.proofs.lemmas.List.Elements.{All-push, Contains-push, Contains-append_left}
use Rattle.std.proofs.lemmas.List.Quantifiers.{all_pairs_push}
use Rattle.mud_roads.specs.declared.label.Label.{Label}
use Rattle.mud_search.specs.Least.{AreLabelsBelow}

-- a number with its label
abbrev Found : Type 0
Found = ℕ × Label

some-inj : (k l : Label) → Some k ≡ Some l → k ≡ l
some-inj k l e = cc

-- a room without a label is left out
pub below-skip : (labels : ℕ → Option Label) (room : ℕ) (found : List (ℕ × Label)) → AreLabelsBelow labels room found
    → labels room ≡ None → AreLabelsBelow labels (room + 1) found
below-skip labels room found are none = record {
  rising = are.rising;
  inside = λ k d h. (omega (arith, (are.inside k d h).0), (are.inside k d h).1);
  whole = λ r l h e. elim (cases_eq r room) [
    | inl same ↦ absurd (let bad : Some l ≡ None = sym e ∙ ap labels same ∙ none in cc)
    | inr apart ↦ are.whole r l (omega arith) e
  ];
}

-- one with a label comes last
pub below-push : (labels : ℕ → Option Label) (room : ℕ) (l : Label) (found : List (ℕ × Label))
    → AreLabelsBelow labels room found → labels room ≡ Some l
    → AreLabelsBelow labels (room + 1) (found ++ (room, l) ∷ [])
below-push labels room l found are is = record {
  rising = all_pairs_push (λ (d : Found) (e : Found). d.0 < e.0) found (room, l) are.rising
      (λ k d h. (are.inside k d h).0);
  inside = All-push (λ (e : Found). (e.0 < room + 1) × (labels e.0 ≡ Some e.1)) found (room, l)
      (λ k d h. (omega (arith, (are.inside k d h).0), (are.inside k d h).1)) (omega arith, is);
  whole = λ r k h e. elim (cases_eq r room) [
    | inl same ↦
        let one : l ≡ k = some-inj l k (sym is ∙ ap labels (sym same) ∙ e) in
        let pair : Found = (room, l) in
        let other : Found = (r, k) in
        let alike : pair ≡ other = cc in
        let P : Found → Type 0 = λ x. Contains (found ++ pair ∷ []) x in
        subst P alike (Contains-push found pair)
    | inr apart ↦ Contains-append_left found ((room, l) ∷ []) (r, k) (are.whole r k (omega arith) e)
  ];
}

-- numbers past the last room have no label
pub below-past : (labels : ℕ → Option Label) (end next : ℕ) (found : List (ℕ × Label)) → end ≤ next
    → ((room : ℕ) → end ≤ room → room < next → labels room ≡ None) → AreLabelsBelow labels end found
    → AreLabelsBelow labels next found
below-past labels end next found most none are = record {
  rising = are.rising;
  inside = λ k d h. (omega (arith, (are.inside k d h).0), (are.inside k d h).1);
  whole = λ room l h is. elim (cases_lt room end) [
    | inl less ↦ are.whole room l less is
    | inr past ↦ absurd (let bad : Some l ≡ None = sym is ∙ none room past h in cc)
  ];
}
