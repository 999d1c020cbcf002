-- The library's trimming of spaces removes exactly the spaces at the ends.
use Rattle.std.proofs.Common.{◌≡◌, ◌≢◌, ℕ, ◌-◌, Bool, true, false, Some, None, List, [], ◌∷◌, ◌++◌, length, take, drop}
use Rattle.std.proofs.Common.{refl, sym, ◌∙◌, ap, lit<, arith}
use Rattle.std.specs.Prelude.{nat_eq, reverse, if◌then◌else◌}
use Rattle.std.proofs.lemmas.List.{reverse-append, reverse-reverse, take-append-drop}
use Rattle.std.proofs.Math.Seq.{drop-length}
use Rattle.std.proofs.lemmas.Str.{encode_ascii}
use Rattle.std.proofs.lemmas.Bool.{eqb-true}
use Rattle.std.specs.Str.Pattern.{FindsCharPrefix, FindsCharSuffix, CutsPrefixes, CutsSuffixes, IsFullyTrimmed}
use Rattle.std.specs.Str.Pattern.{IsTrimStartMatches, IsTrimEndMatches}
use Rattle.std.proofs.lemmas.Str.Pattern.{drop_at_char}
use Rattle.mud_key.specs.Commas.{without_leading_spaces}

-- ---- leading spaces

same_behind_cuts : (s : List ℕ) (ns : List ℕ) (r : List ℕ) → CutsPrefixes (FindsCharPrefix 32) s ns r
    → without_leading_spaces s ≡ without_leading_spaces r
same_behind_cuts s [] r h = ap without_leading_spaces (sym h)
same_behind_cuts s (n ∷ ns) r (m, h, hit, e) =
    same_behind_cuts s ns m h
    ∙ ap without_leading_spaces (drop_at_char 32 m 0 n hit (lit< tt) ∙ ap (λ z. 32 ∷ z) (sym e))

no_space_first : (b : ℕ) (r : List ℕ) (t : Bool) → nat_eq b 32 ≡ t → ((rest : List ℕ) → b ∷ r ≢ 32 ∷ rest)
    → (if t then without_leading_spaces r else b ∷ r) ≡ b ∷ r
no_space_first b r true e h = absurd (h r (ap (λ z. z ∷ r) (eqb-true b 32 e)))
no_space_first b r false e h = refl

pub none_in_front : (r : List ℕ) → ((rest : List ℕ) → r ≢ 32 ∷ rest) → without_leading_spaces r ≡ r
none_in_front [] h = refl
none_in_front (b ∷ r) h = no_space_first b r (nat_eq b 32) refl h

none_left : (r : List ℕ) → IsFullyTrimmed (FindsCharPrefix 32) r → without_leading_spaces r ≡ r
none_left r (None, h, u) =
    none_in_front r (λ rest e. h rest (e ∙ ap (λ z. z ++ rest) (sym (encode_ascii 32 (lit< tt)))))
none_left r (Some n, h, u) =
    absurd (let e : r ≡ 32 ∷ drop n r = drop_at_char 32 r 0 n h (lit< tt) in
    omega (arith, u, ap length e, ap (λ k. length (drop k r)) u))

pub trimmed_in_front : (s r : List ℕ) → IsTrimStartMatches (FindsCharPrefix 32) s r → r ≡ without_leading_spaces s
trimmed_in_front s r ((ns, cuts), full) = sym (same_behind_cuts s ns r cuts ∙ none_left r full)

-- ---- trailing spaces

last_space : (m : List ℕ) (n : ℕ) → FindsCharSuffix 32 m (Some n) → m ≡ take (length m - n) m ++ 32 ∷ []
last_space m n h =
    sym (take-append-drop (length m - n) m)
    ∙ ap (λ l. take (length m - n) m ++ l)
    (drop_at_char 32 m (length m - n) (length m) h.1 (lit< tt) ∙ ap (λ l. 32 ∷ l) (drop-length m))

same_before_cuts : (s : List ℕ) (ns : List ℕ) (r : List ℕ) → CutsSuffixes (FindsCharSuffix 32) s ns r
    → without_leading_spaces (reverse s) ≡ without_leading_spaces (reverse r)
same_before_cuts s [] r h = ap (λ z. without_leading_spaces (reverse z)) (sym h)
same_before_cuts s (n ∷ ns) r (m, h, hit, e) =
    same_before_cuts s ns m h
    ∙ ap without_leading_spaces
    (ap reverse (last_space m n hit) ∙ reverse-append (take (length m - n) m) (32 ∷ [])
    ∙ ap (λ z. 32 ∷ reverse z) (sym e))

none_last : (r : List ℕ) → ((front : List ℕ) → r ≢ front ++ 32 ∷ []) → (rest : List ℕ) → reverse r ≢ 32 ∷ rest
none_last r h rest e = h (reverse rest) (sym (reverse-reverse r) ∙ ap reverse e ∙ reverse-append (32 ∷ []) rest)

none_left_behind : (r : List ℕ) → IsFullyTrimmed (FindsCharSuffix 32) r → without_leading_spaces (reverse r) ≡ reverse r
none_left_behind r (None, h, u) =
    none_in_front (reverse r)
    (none_last r (λ front e. h front (e ∙ ap (λ z. front ++ z) (sym (encode_ascii 32 (lit< tt))))))
none_left_behind r (Some n, h, u) =
    absurd (let e : r ≡ take (length r - n) r ++ 32 ∷ [] = last_space r n h in omega (arith, u, ap length e))

pub trimmed_behind : (s r : List ℕ) → IsTrimEndMatches (FindsCharSuffix 32) s r
    → r ≡ reverse (without_leading_spaces (reverse s))
trimmed_behind s r ((ns, cuts), full) =
    sym (ap reverse (same_before_cuts s ns r cuts ∙ none_left_behind r full) ∙ reverse-reverse r)
