-- The role of a byte in its word, and the text after it.
use Rattle.std.proofs.Common.{◌≡◌, ℕ, suc, ◌+◌, ◌<◌, Bool, true, false, cond, eqb, List, ◌∷◌, drop}
use Rattle.std.proofs.Common.{refl, inl, inr, arith}
use Rattle.std.proofs.lemmas.Bool.Decides.{nat_tests}
use Rattle.std.proofs.lemmas.Bool.{cases_lt}
use Rattle.std.specs.List.{position_or_len}
use Rattle.mud_words.specs.declared.codes.TheConstants.{SPACE, QUOTE, BACKSLASH}
use Rattle.mud_words.specs.declared.piece.Piece.{Piece}
use Rattle.mud_words.specs.declared.piece.Piece.TheVariants.{Gap, Mark, Char}
use Rattle.mud_words.specs.inner.Pieces.{piece, is_gap}

not_eqb : (b c : ℕ) → c < b → eqb b c ≡ false
not_eqb b c lt = grind (arith, nat_tests)

-- a byte outside ASCII stands for itself
piece-high : (quoted escaped : Bool) (b : ℕ) → 127 < b → piece quoted escaped b ≡ Char b
piece-high quoted true b high = refl
piece-high true false b high = rw (not_eqb b BACKSLASH (omega arith), not_eqb b QUOTE (omega arith)) refl
piece-high false false b high =
    rw (not_eqb b BACKSLASH (omega arith), not_eqb b QUOTE (omega arith), not_eqb b SPACE (omega arith)) refl

-- so a byte that does not stand for itself is ASCII
pub piece-low : (quoted escaped : Bool) (b : ℕ) → (piece quoted escaped b ≡ Char b → ⊥) → b < 128
piece-low quoted escaped b other =
    elim (cases_lt b 128) [
      | inl low ↦ low
      | inr high ↦ absurd (other (piece-high quoted escaped b (omega arith)))
    ]

-- the byte that a piece stands for
pub of_char : (mark gap : Bool) (b d : ℕ) → Char d ≡ cond mark Mark (cond gap Gap (Char b)) → d ≡ b
of_char true gap b d e = cc
of_char false true b d e = cc
of_char false false b d e = cc

-- the text after the first gap
abbrev pub from_gap : List Piece → List ℕ → List ℕ
from_gap ps text = drop (position_or_len is_gap ps + 1) text

pub drop-past_one : (n x : ℕ) (xs : List ℕ) → drop (1 + n + 1) (x ∷ xs) ≡ drop (n + 1) xs
drop-past_one n x xs = let e : 1 + n + 1 ≡ suc (n + 1) = omega arith in rw e refl
