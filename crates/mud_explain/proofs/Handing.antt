-- Desks that are handed in.
use Rattle.std.proofs.Common.{◌≡◌, ℕ, ◌+◌, ◌<◌, List, [], ◌∷◌, ◌++◌, length, take}
use Rattle.std.proofs.Common.{get_or, Some, slice_get, sym, ap, ◌∙◌}
use Rattle.std.proofs.lemmas.List.{take_more, map-append}
use Rattle.std.proofs.lemmas.Option.{get_or_from_slice_get}
use Rattle.std.specs.List.{remove}
use Rattle.std.specs.List.Sorted.{IsPermutation}
use Rattle.std.proofs.lemmas.List.Sorted.{IsPermutation-more, IsPermutation-append_comm, IsPermutation-trans}
use Rattle.mud_hall.specs.Desk.{View}
use Rattle.mud_explain.specs.inner.Steps.{AreHanded}

abbrev pub number_in : View → ℕ
number_in d = d.state.number

-- one more desk is handed in
pub handed-more : (numbers : List ℕ) (k at : ℕ) (desks handed left : List View) (d e : View)
    → AreHanded (take k numbers) desks handed left → k < length numbers → at < length left
    → slice_get left at ≡ Some e → e.state.number ≡ get_or numbers k 0 → d ≡ get_or left at d
    → AreHanded (take (k + 1) numbers) desks (handed ++ d ∷ []) (remove left at)
handed-more numbers k at desks handed left d e are lt inside there number one =
    let same : d ≡ e = one ∙ get_or_from_slice_get left at e d there in
    let number_is : d.state.number ≡ get_or numbers k 0 = ap number_in same ∙ number in
    record {
      numbers_are = map-append number_in handed (d ∷ [])
          ∙ (ap (λ w. w ++ d.state.number ∷ []) are.numbers_are
          ∙ (ap (λ m. take k numbers ++ m ∷ []) number_is ∙ sym (take_more numbers k 0 lt)));
      all = IsPermutation-more desks handed left at d inside one are.all;
    }

-- all are back, after the others
pub handed-back : (numbers : List ℕ) (desks handed left : List View)
    → AreHanded numbers desks handed left → IsPermutation desks (left ++ handed)
handed-back numbers desks handed left are =
    IsPermutation-trans desks (handed ++ left) (left ++ handed) are.all (IsPermutation-append_comm handed left)
