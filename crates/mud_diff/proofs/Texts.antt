-- Lists of texts that are equal one by one.
use Rattle.std.proofs.Common.{◌≡◌, ◌≢◌, true, false, List, [], ◌∷◌, map, Global, String, refl, sym, ◌∙◌, ap, subst}
use Rattle.std.specs.Prelude.{◌&&◌, string_bytes, string_eq, MatchBool}
use lib.Pointwise.{pointwise}
use Rattle.std.proofs.lemmas.Slice.Eq.{bytes_eq-Decides}
use Rattle.std.proofs.lemmas.Bool.{and_parts, true≢false}
use Rattle.mud_world.proofs.Records.{bool_cases}

pub same_texts : (xs ys : List (String Global)) → pointwise string_eq xs ys ≡ true
    → map string_bytes xs ≡ map string_bytes ys
same_texts [] [] is = refl
same_texts [] (y ∷ ys) is = absurd (true≢false (sym is))
same_texts (x ∷ xs) [] is = absurd (true≢false (sym is))
same_texts (x ∷ xs) (y ∷ ys) is =
    let parts = and_parts (string_eq x y) (pointwise string_eq xs ys) is in
    let first : string_bytes x ≡ string_bytes y = (bytes_eq-Decides (string_bytes x) (string_bytes y)).0 parts.0 in
    let rest = same_texts xs ys parts.1 in
    λ i. first i ∷ rest i

pub other_texts : (xs ys : List (String Global)) → pointwise string_eq xs ys ≡ false
    → map string_bytes xs ≢ map string_bytes ys
other_texts [] [] is same = absurd (true≢false is)
other_texts [] (y ∷ ys) is same = absurd (cc)
other_texts (x ∷ xs) [] is same = absurd (cc)
other_texts (x ∷ xs) (y ∷ ys) is same =
    let first : string_bytes x ≡ string_bytes y = cc in
    let rest : map string_bytes xs ≡ map string_bytes ys = cc in
    let yes : string_eq x y ≡ true = (bytes_eq-Decides (string_bytes x) (string_bytes y)).1 first in
    other_texts xs ys (sym (ap (λ b. b && pointwise string_eq xs ys) yes) ∙ is) rest

pub texts_match : (xs ys : List (String Global)) → MatchBool (pointwise string_eq xs ys)
    (map string_bytes xs ≡ map string_bytes ys) (map string_bytes xs ≢ map string_bytes ys)
texts_match xs ys =
    bool_cases (pointwise string_eq xs ys)
    (λ yes. subst (λ b. MatchBool b (map string_bytes xs ≡ map string_bytes ys)
    (map string_bytes xs ≢ map string_bytes ys)) (sym yes) (same_texts xs ys yes))
    (λ other. subst (λ b. MatchBool b (map string_bytes xs ≡ map string_bytes ys)
    (map string_bytes xs ≢ map string_bytes ys)) (sym other) (other_texts xs ys other))
