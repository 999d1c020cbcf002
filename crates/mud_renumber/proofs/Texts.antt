-- Lists of texts that are equal one by one.
use Rattle.std.proofs.Common.{◌≡◌, true, false, List, [], ◌∷◌, map, Global, String, refl, sym, ◌∙◌, ap}
use Rattle.std.specs.Prelude.{◌&&◌, string_bytes, string_eq}
use lib.Pointwise.{pointwise}
use Rattle.std.proofs.lemmas.Slice.Eq.{bytes_eq-Decides}
use Rattle.std.proofs.lemmas.Bool.{and_parts, true≢false}

pub same_texts : (xs ys : List (String Global)) → pointwise string_eq xs ys ≡ true
    → map string_bytes xs ≡ map string_bytes ys
same_texts [] [] is = refl
same_texts [] (y ∷ ys) is = absurd (true≢false (sym is))
same_texts (x ∷ xs) [] is = absurd (true≢false (sym is))
same_texts (x ∷ xs) (y ∷ ys) is =
    let parts = and_parts (string_eq x y) (pointwise string_eq xs ys) is in
    let first : string_bytes x ≡ string_bytes y = (bytes_eq-Decides (string_bytes x) (string_bytes y)).0 parts.0 in
    let rest = same_texts xs ys parts.1 in
    λ i. first i ∷ rest i
