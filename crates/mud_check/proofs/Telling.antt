-- The output if a write fails.
use Rattle.std.proofs.Common.{ℕ, List, [], ◌∷◌, ◌++◌, take, drop, Option, sym, ◌∙◌, ap, append_assoc, take-append-drop}
use mathlib.Core.List.{IsPrefix}
use Rattle.std.specs.Io.KnownBytes.{Appends}
use Rattle.std.proofs.KnownBytes.{Appends-trans}
use Rattle.mud_key.specs.declared.codes.TheConstants.{LF}

-- a prefix of the line was written
abbrev pub IsCut : Option (List ℕ) → Option (List ℕ) → List ℕ → Type 0
IsCut held now_held text = (front : List ℕ) × IsPrefix front (text ++ LF ∷ []) × Appends held now_held front

-- the text was not written whole
pub cut-text : (held now_held : Option (List ℕ)) (text : List ℕ) (n : ℕ) → Appends held now_held (take n text)
    → IsCut held now_held text
cut-text held now_held text n appends =
    let whole =
    sym (append_assoc (take n text) (drop n text) (LF ∷ [])) ∙ ap (λ t. t ++ LF ∷ []) (take-append-drop n text) in
    (take n text, (drop n text ++ LF ∷ [], whole), appends)

-- the text was written, and its line end was not
pub cut-end : (held mid now_held : Option (List ℕ)) (text : List ℕ) (n : ℕ) → Appends held mid text
    → Appends mid now_held (take n (LF ∷ [])) → IsCut held now_held text
cut-end held mid now_held text n first second =
    let whole =
    append_assoc text (take n (LF ∷ [])) (drop n (LF ∷ [])) ∙ ap (λ t. text ++ t) (take-append-drop n (LF ∷ [])) in (
      text ++ take n (LF ∷ []),
      (drop n (LF ∷ []), whole),
      Appends-trans held mid now_held text (take n (LF ∷ [])) first second,
    )
