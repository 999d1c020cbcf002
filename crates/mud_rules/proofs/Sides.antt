-- A text read byte by byte, and its sides between bars.
use Rattle.std.proofs.Common.{◌≡◌, ℕ, Bool, true, false, cond, List, [], ◌∷◌, refl, ◌∙◌, ap, sym}
use Rattle.std.specs.Prelude.{◌||◌, if◌then◌else◌}
use Rattle.std.specs.List.{list_any, slice_split, onto_first}
use Rattle.mud_rules.specs.Matches.{is_empty}
use Rattle.mud_rules.specs.Commands.{is_bar, has_empty_side}
use Rattle.mud_rules.proofs.Least.{bool_cases}

-- one of the sides between bars is empty; fresh says that the current side is empty so far
abbrev pub empty_side : Bool → List ℕ → Bool
empty_side fresh [] = fresh
empty_side fresh (c ∷ cs) = if is_bar c then fresh || empty_side true cs else empty_side false cs

-- once a side is not empty, the result depends only on the others
begun : (x c : ℕ) (sides : List (List ℕ))
    → list_any is_empty (onto_first x (onto_first c sides)) ≡ list_any is_empty (onto_first c sides)
begun x c [] = refl
begun x c (side ∷ sides) = refl

-- the rest of a text, at the beginning of a side, and within a side
pub sides_of : (text : List ℕ)
    → (empty_side true text ≡ has_empty_side text)
    × ((x : ℕ) → empty_side false text ≡ list_any is_empty (onto_first x (slice_split is_bar text)))
sides_of [] = (refl, λ x. refl)
sides_of (c ∷ cs) =
    let sides : Bool → List (List ℕ) =
    λ b. cond b ([] ∷ slice_split is_bar cs) (onto_first c (slice_split is_bar cs)) in
    bool_cases (is_bar c)
    (λ yes. (
      ap (λ b. if b then true || empty_side true cs else empty_side false cs) yes
          ∙ sym (ap (λ b. list_any is_empty (sides b)) yes),
      λ x. ap (λ b. if b then false || empty_side true cs else empty_side false cs) yes ∙ (sides_of cs).0
          ∙ sym (ap (λ b. list_any is_empty (onto_first x (sides b))) yes),
    ))
    (λ no. (
      ap (λ b. if b then true || empty_side true cs else empty_side false cs) no ∙ (sides_of cs).1 c
          ∙ sym (ap (λ b. list_any is_empty (sides b)) no),
      λ x. ap (λ b. if b then false || empty_side true cs else empty_side false cs) no ∙ (sides_of cs).1 c
          ∙ sym (ap (λ b. list_any is_empty (onto_first x (sides b))) no ∙ begun x c (slice_split is_bar cs)),
    ))
