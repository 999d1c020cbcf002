-- The beginning of a journal's entries.
use Rattle.std.proofs.Common.{◌≡◌, List, ◌++◌, length, take, drop, arith, sym, ap, ◌∙◌}
use Rattle.std.proofs.Math.Seq.{take-length}
use Rattle.std.proofs.lemmas.List.{take-append-drop, take-append-le}
use mathlib.Core.List.{IsPrefix}
use Rattle.mud_server_end.proofs.Keeping.{prefix_trans}

begins : {A : Type 0} (xs ys : List A) → IsPrefix xs ys → take (length xs) ys ≡ xs
begins xs ys (zs, is) =
    ap (take (length xs)) (sym is) ∙ take-append-le (length xs) xs zs (omega arith) ∙ take-length xs

pub whole : {A : Type 0} (xs ys : List A) → ys ≡ xs → take (length xs) ys ≡ xs
whole xs ys is = ap (take (length xs)) is ∙ take-length xs

pub begun : {A : Type 0} (xs ys : List A) → take (length xs) ys ≡ xs → IsPrefix xs ys
begun xs ys is =
    (drop (length xs) ys, ap (λ l. l ++ drop (length xs) ys) (sym is) ∙ take-append-drop (length xs) ys)

pub longer : {A : Type 0} (xs ys zs : List A) → take (length xs) ys ≡ xs → IsPrefix ys zs → take (length xs) zs ≡ xs
longer xs ys zs is more = begins xs zs (prefix_trans xs ys zs (begun xs ys is) more)
