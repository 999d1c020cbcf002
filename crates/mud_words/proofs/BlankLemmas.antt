-- A line without words is blank.
use Rattle.std.proofs.Common.{◌≡◌, ℕ, ◌==◌, ◌<◌, ◌↔◌, Bool, true, false, cond, ◌&&◌, IsTrue, List, [], ◌∷◌, ◌++◌}
use Rattle.std.proofs.Common.{length, refl, sym, ◌∙◌, arith}
use Rattle.std.specs.List.{slice_split, onto_first, list_all}
use Rattle.std.proofs.lemmas.Bool.{false≢true}
use Rattle.std.proofs.lemmas.Bool.Decides.{nat_tests}
use Rattle.mud_words.specs.declared.codes.TheConstants.{QUOTE, COLON, SEMICOLON}
use Rattle.mud_words.specs.declared.piece.Piece.{Piece}
use Rattle.mud_words.specs.declared.piece.Piece.TheVariants.{Mark, Char}
use Rattle.mud_words.specs.Words.{plain_words, is_space}
use Rattle.mud_words.specs.inner.Pieces.{is_gap, texts_of, pieces_from, quoted_after, escaped_after}
use Rattle.mud_words.specs.Words.{without_front, spelled_out, words, is_blank}

not_empty : {X : Type 0} (x : X) (xs : List X) → (length (x ∷ xs) == 0) ≡ false
not_empty x xs = let some : 0 < length (x ∷ xs) = omega arith in grind (arith, nat_tests)

-- a blank line is empty without its leading spaces
pub is_blank-empty : (line : List ℕ) → (length (without_front line) == 0) ≡ is_blank line
is_blank-empty [] = refl
is_blank-empty (b ∷ bs) =
    elim (is_space b) as
    (λ t. (length (cond t (without_front bs) (b ∷ bs)) == 0) ≡ (t && list_all is_space bs)) [
      | true ↦
          is_blank-empty bs
      | false ↦ not_empty b bs
    ]

abbrev pub begins_blank : List ℕ → Bool
begins_blank [] = false
begins_blank (b ∷ bs) = is_space b

pub bare : (line : List ℕ) → begins_blank (without_front line) ≡ false
bare [] = refl
bare (b ∷ bs) = front b bs (is_space b) refl (bare bs)
  where
    front : (b : ℕ) (bs : List ℕ) (t : Bool) → is_space b ≡ t → begins_blank (without_front bs) ≡ false
        → begins_blank (cond t (without_front bs) (b ∷ bs)) ≡ false
    front b bs true is rest = rest
    front b bs false is rest = is

has_word : (p : Piece) (parts : List (List Piece)) → texts_of (onto_first p parts) ≡ [] → ⊥
has_word p [] none = cc
has_word p (part ∷ parts) none = cc

-- a line whose first character is not a space has a word
begun : (mark : Bool) (c : ℕ) (ps : List Piece) → texts_of (slice_split is_gap (cond mark Mark (Char c) ∷ ps)) ≡ [] → ⊥
begun true c ps none = has_word Mark (slice_split is_gap ps) none
begun false c ps none = has_word (Char c) (slice_split is_gap ps) none

some_word : (b : ℕ) (bs : List ℕ) → is_space b ≡ false → plain_words (b ∷ bs) ≡ [] → ⊥
some_word b bs other none =
    begun _ b (pieces_from (quoted_after false false b) (escaped_after false b) bs) (rw other at none)

spelled : (b : ℕ) (bs : List ℕ) (say emote eval : Bool) → is_space b ≡ false
    → plain_words
    (cond say (115 ∷ 97 ∷ 121 ∷ 32 ∷ [])
    (cond emote (101 ∷ 109 ∷ 111 ∷ 116 ∷ 101 ∷ 32 ∷ []) (cond eval (101 ∷ 118 ∷ 97 ∷ 108 ∷ 32 ∷ []) (b ∷ []))) ++ bs)
    ≡ [] → ⊥
spelled b bs true emote eval other none = some_word 115 (97 ∷ 121 ∷ 32 ∷ bs) refl none
spelled b bs false true eval other none = some_word 101 (109 ∷ 111 ∷ 116 ∷ 101 ∷ 32 ∷ bs) refl none
spelled b bs false false true other none = some_word 101 (118 ∷ 97 ∷ 108 ∷ 32 ∷ bs) refl none
spelled b bs false false false other none = some_word b bs other none

no_words : (text : List ℕ) → begins_blank text ≡ false
    → (IsTrue (length text == 0)) ↔ (plain_words (spelled_out text) ≡ [])
no_words [] other = (λ _. refl, λ _. refl)
no_words (b ∷ bs) other = (
  λ none. absurd (false≢true (sym (not_empty b bs) ∙ none)),
  λ none.
      absurd (spelled b bs (b == QUOTE) (b == COLON) (b == SEMICOLON) other none),
)

-- so a line has no words exactly if it is blank
pub words-empty : (line : List ℕ) → (IsTrue (length (without_front line) == 0)) ↔ (words line ≡ [])
unfolding words
words-empty line = no_words (without_front line) (bare line)
