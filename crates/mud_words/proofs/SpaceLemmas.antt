-- Spaces at the ends of a text, and its first character.
use Rattle.std.proofs.Common.{◌≡◌, ◌≢◌, ℕ, ◌-◌, Bool, true, false, Some, None, eqb, List, [], ◌∷◌, ◌++◌, length, take}
use Rattle.std.proofs.Common.{drop, reverse, refl, sym, ap, lit<, ◌∙◌, arith, inl, inr}
use Rattle.std.specs.Prelude.{if◌then◌else◌}
use Rattle.std.specs.Char.{encode_utf8}
use Rattle.std.specs.Str.Pattern.{FindsCharPrefix, FindsCharSuffix, CutsPrefixes, CutsSuffixes, IsFullyTrimmed}
use Rattle.std.specs.Str.Pattern.{IsTrimStartMatches, IsTrimEndMatches}
use Rattle.std.proofs.Math.Seq.{drop-length}
use Rattle.std.proofs.lemmas.List.{reverse-reverse, reverse-append, take-append-drop}
use Rattle.std.proofs.lemmas.Str.{encode_ascii}
use Rattle.std.proofs.lemmas.Str.Pattern.{drop_at_char}
use Rattle.std.proofs.lemmas.Bool.{cases_eq, eqb-true}
use Rattle.std.proofs.lemmas.Bool.Decides.{nat_tests}
use Rattle.mud_words.specs.declared.codes.TheConstants.{QUOTE, COLON, SEMICOLON}
use Rattle.mud_words.specs.Words.{is_space, without_front, without_back, spelled_out}

-- ---- leading spaces

same_behind_cuts : (s : List ℕ) (ns : List ℕ) (r : List ℕ) → CutsPrefixes (FindsCharPrefix 32) s ns r
    → without_front s ≡ without_front r
same_behind_cuts s [] r h = ap without_front (sym h)
same_behind_cuts s (n ∷ ns) r (m, h, hit, e) =
    same_behind_cuts s ns m h ∙ ap without_front (drop_at_char 32 m 0 n hit (lit< tt) ∙ ap (λ z. 32 ∷ z) (sym e))

no_space_first : (b : ℕ) (r : List ℕ) (t : Bool) → is_space b ≡ t → ((rest : List ℕ) → b ∷ r ≢ 32 ∷ rest)
    → (if t then without_front r else b ∷ r) ≡ b ∷ r
no_space_first b r true e h = absurd (h r (ap (λ z. z ∷ r) (eqb-true b 32 e)))
no_space_first b r false e h = refl

none_in_front : (r : List ℕ) → ((rest : List ℕ) → r ≢ 32 ∷ rest) → without_front r ≡ r
none_in_front [] h = refl
none_in_front (b ∷ r) h = no_space_first b r (is_space b) refl h

none_left : (r : List ℕ) → IsFullyTrimmed (FindsCharPrefix 32) r → without_front r ≡ r
none_left r (None, h, u) =
    none_in_front r (λ rest e. h rest (e ∙ ap (λ z. z ++ rest) (sym (encode_ascii 32 (lit< tt)))))
none_left r (Some n, h, u) =
    absurd (let e : r ≡ 32 ∷ drop n r = drop_at_char 32 r 0 n h (lit< tt) in
    omega (arith, u, ap length e, ap (λ k. length (drop k r)) u))

pub trimmed_in_front : (s r : List ℕ) → IsTrimStartMatches (FindsCharPrefix 32) s r → r ≡ without_front s
trimmed_in_front s r ((ns, cuts), full) = sym (same_behind_cuts s ns r cuts ∙ none_left r full)

-- ---- trailing spaces

last_space : (m : List ℕ) (n : ℕ) → FindsCharSuffix 32 m (Some n) → m ≡ take (length m - n) m ++ 32 ∷ []
last_space m n h =
    sym (take-append-drop (length m - n) m)
    ∙ ap (λ l. take (length m - n) m ++ l)
    (drop_at_char 32 m (length m - n) (length m) h.1 (lit< tt) ∙ ap (λ l. 32 ∷ l) (drop-length m))

same_before_cuts : (s : List ℕ) (ns : List ℕ) (r : List ℕ) → CutsSuffixes (FindsCharSuffix 32) s ns r
    → without_front (reverse s) ≡ without_front (reverse r)
same_before_cuts s [] r h = ap (λ z. without_front (reverse z)) (sym h)
same_before_cuts s (n ∷ ns) r (m, h, hit, e) =
    same_before_cuts s ns m h
    ∙ ap without_front
    (ap reverse (last_space m n hit) ∙ reverse-append (take (length m - n) m) (32 ∷ [])
    ∙ ap (λ z. 32 ∷ reverse z) (sym e))

none_last : (r : List ℕ) → ((front : List ℕ) → r ≢ front ++ 32 ∷ []) → (rest : List ℕ) → reverse r ≢ 32 ∷ rest
none_last r h rest e = h (reverse rest) (sym (reverse-reverse r) ∙ ap reverse e ∙ reverse-append (32 ∷ []) rest)

none_left_behind : (r : List ℕ) → IsFullyTrimmed (FindsCharSuffix 32) r → without_front (reverse r) ≡ reverse r
none_left_behind r (None, h, u) =
    none_in_front (reverse r)
    (none_last r (λ front e. h front (e ∙ ap (λ z. front ++ z) (sym (encode_ascii 32 (lit< tt))))))
none_left_behind r (Some n, h, u) =
    absurd (let e : r ≡ take (length r - n) r ++ 32 ∷ [] = last_space r n h in omega (arith, u, ap length e))

pub trimmed_behind : (s r : List ℕ) → IsTrimEndMatches (FindsCharSuffix 32) s r → r ≡ without_back s
trimmed_behind s r ((ns, cuts), full) =
    sym (ap reverse (same_before_cuts s ns r cuts ∙ none_left_behind r full) ∙ reverse-reverse r)

-- ---- the first character
-- the first byte of a text that does not begin with c
other_first : (b c : ℕ) (bs : List ℕ) → ((rest : List ℕ) → b ∷ bs ≡ c ∷ rest → ⊥) → eqb b c ≡ false
other_first b c bs bare =
    elim (cases_eq b c) [
      | inl same ↦ absurd (bare bs (ap (λ (x : ℕ). x ∷ bs) same))
      | inr other ↦
          grind (arith, nat_tests)
    ]

plain_first : (line : List ℕ) → ((rest : List ℕ) → line ≡ QUOTE ∷ rest → ⊥)
    → ((rest : List ℕ) → line ≡ COLON ∷ rest → ⊥) → ((rest : List ℕ) → line ≡ SEMICOLON ∷ rest → ⊥)
    → line ≡ spelled_out line
plain_first [] say emote eval = refl
plain_first (b ∷ bs) say emote eval =
    rw (other_first b QUOTE bs say, other_first b COLON bs emote, other_first b SEMICOLON bs eval) refl

-- a line without shorthand is already spelled out
pub spelled_out-plain : (line : List ℕ) → ((rest : List ℕ) → line ≡ encode_utf8 34 ++ rest → ⊥)
    → ((rest : List ℕ) → line ≡ encode_utf8 58 ++ rest → ⊥) → ((rest : List ℕ) → line ≡ encode_utf8 59 ++ rest → ⊥)
    → line ≡ spelled_out line
unfolding encode_utf8
spelled_out-plain line say emote eval = plain_first line say emote eval
