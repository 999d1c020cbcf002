-- A word continues with the characters that follow it.
use Rattle.std.proofs.Common.{◌≡◌, ℕ, List, [], ◌∷◌, ◌++◌, Option, None, Some, refl, sym, ap, append_assoc}
use Rattle.std.specs.List.{slice_split, onto_first}
use Rattle.std.proofs.lemmas.List.{append-nil}
use Rattle.mud_words.specs.declared.piece.Piece.{Piece}
use Rattle.mud_words.specs.declared.piece.Piece.TheVariants.{Mark, Char}
use Rattle.mud_words.specs.inner.Pieces.{is_gap, text_of, texts_of}
use Rattle.mud_words.specs.inner.Cuts.{goes_on, rest_words, open_word}

pub onto : (word : List ℕ) (c : ℕ) (parts : List (List Piece))
    → goes_on word (onto_first (Char c) parts) ≡ goes_on (word ++ c ∷ []) parts
onto word c [] = refl
onto word c (part ∷ parts) = ap (λ (w : List ℕ). w ∷ texts_of parts) (sym (append_assoc word (c ∷ []) (text_of part)))

pub first : (c : ℕ) (parts : List (List Piece)) → texts_of (onto_first (Char c) parts) ≡ goes_on (c ∷ []) parts
first c [] = refl
first c (part ∷ parts) = refl

first_mark : (parts : List (List Piece)) → texts_of (onto_first Mark parts) ≡ goes_on [] parts
first_mark [] = refl
first_mark (part ∷ parts) = refl

pub more_mark : (word : List ℕ) (parts : List (List Piece)) → goes_on word (onto_first Mark parts) ≡ goes_on word parts
more_mark word [] = ap (λ (w : List ℕ). w ∷ []) (append-nil word)
more_mark word (part ∷ parts) = refl

pub mark : (word : Option (List ℕ)) (ps : List Piece)
    → rest_words word (Mark ∷ ps) ≡ goes_on (open_word word) (slice_split is_gap ps)
mark (Some word) ps = more_mark word (slice_split is_gap ps)
mark None ps = first_mark (slice_split is_gap ps)
