-- The bytes before the first occurrence of a byte, and the bytes after it.
use Rattle.std.proofs.Common.{◌≡◌, ◌≢◌, ℕ, suc, ◌+◌, ◌<◌, Bool, true, false, ◌⊎◌, inl, inr, List, [], ◌∷◌, ◌++◌, length}
use Rattle.std.proofs.Common.{take, drop, Some, None, refl, sym, ◌∙◌, ap, arith, eqb}
use Rattle.std.proofs.lemmas.Bool.{cases_Bool, ne_eqb, and_parts, and_from, true≢false}
use Rattle.std.proofs.lemmas.Bool.Decides.{Decides-eqb}
use Rattle.std.specs.Prelude.{not}
use Rattle.std.specs.List.{AllByRecursion, list_all, position_or_len, before_first, after_first}
use Rattle.std.specs.Option.{option_map}
use Rattle.mud_chron.specs.inner.Reader.{cut}

eqb-refl : (c : ℕ) → eqb c c ≡ true
eqb-refl c = (Decides-eqb c c).1 refl

pub not_true : (b : Bool) → not b ≡ true → b ≡ false
not_true true h = sym h
not_true false h = refl

abbrev place : ℕ → List ℕ → ℕ
place c bs = position_or_len (λ b. eqb b c) bs

-- the byte occurs
pub cut_found : (c : ℕ) (bs : List ℕ) → place c bs < length bs
    → cut c bs ≡ Some (before_first (λ b. eqb b c) bs, after_first (λ b. eqb b c) bs)
cut_found c [] h = absurd (omega arith)
cut_found c (b ∷ bs) h = go (cut_found c bs) (cases_Bool (eqb b c))
  where
    go : (place c bs < length bs → cut c bs ≡ Some (take (place c bs) bs, drop (place c bs + 1) bs))
        → (eqb b c ≡ true) ⊎ (eqb b c ≡ false)
        → cut c (b ∷ bs) ≡ Some (take (place c (b ∷ bs)) (b ∷ bs), drop (place c (b ∷ bs) + 1) (b ∷ bs))
    go again (inl e) = rw e refl
    go again (inr e) =
        let less : 1 + place c bs < length (b ∷ bs) = rw e at h in
        let one : 1 + place c bs ≡ suc (place c bs) = omega arith in
        let two : 1 + place c bs + 1 ≡ suc (place c bs + 1) = omega arith in
        rw e (ap (option_map (λ (p : List ℕ × List ℕ). (b ∷ p.0, p.1))) (again (omega arith))
        ∙ ap (λ n. Some (take n (b ∷ bs), drop (place c bs + 1) bs)) (sym one)
        ∙ ap (λ n. Some (take (1 + place c bs) (b ∷ bs), drop n (b ∷ bs))) (sym two))

-- the byte does not occur
pub cut_none : (c : ℕ) (bs : List ℕ) → place c bs ≡ length bs → cut c bs ≡ None
cut_none c [] h = refl
cut_none c (b ∷ bs) h = go (cut_none c bs) (cases_Bool (eqb b c))
  where
    go : (place c bs ≡ length bs → cut c bs ≡ None) → (eqb b c ≡ true) ⊎ (eqb b c ≡ false) → cut c (b ∷ bs) ≡ None
    go again (inl e) = let no : 0 ≡ length (b ∷ bs) = rw e at h in absurd (omega arith)
    go again (inr e) = let same : 1 + place c bs ≡ length (b ∷ bs) = rw e at h in
        rw e (ap (option_map (λ (p : List ℕ × List ℕ). (b ∷ p.0, p.1))) (again (omega arith)))

-- the byte does not occur in the text
abbrev pub lacks : ℕ → List ℕ → Bool
lacks c text = list_all (λ b. not (eqb b c)) text

-- the first occurrence is where no byte before it is equal
pub cut_again : (c : ℕ) (front rest : List ℕ) → lacks c front ≡ true → cut c (front ++ c ∷ rest) ≡ Some (front, rest)
cut_again c [] rest h = rw (eqb-refl c) refl
cut_again c (b ∷ front) rest h =
    let p = and_parts (not (eqb b c)) (lacks c front) h in
    let apart : eqb b c ≡ false = not_true (eqb b c) p.0 in
    rw apart (ap (option_map (λ (p : List ℕ × List ℕ). (b ∷ p.0, p.1))) (cut_again c front rest p.1))

pub lacks_from : (c : ℕ) (text : List ℕ) → AllByRecursion (λ b. b ≢ c) text → lacks c text ≡ true
lacks_from c [] h = refl
lacks_from c (b ∷ text) h = and_from (not (eqb b c)) (lacks c text) (ap not (ne_eqb b c h.0)) (lacks_from c text h.1)

pub lacks_all : (c : ℕ) (text : List ℕ) → lacks c text ≡ true → AllByRecursion (λ b. b ≢ c) text
lacks_all c [] h = tt
lacks_all c (b ∷ text) h =
    let p = and_parts (not (eqb b c)) (lacks c text) h in
    (λ same. true≢false (sym p.0 ∙ ap not (ap (λ z. eqb z c) same ∙ eqb-refl c)), lacks_all c text p.1)

-- a text that passes one test passes the other
pub implied : (p q : ℕ → Bool) → ((b : ℕ) → p b ≡ true → q b ≡ true) → (text : List ℕ) → list_all p text ≡ true
    → list_all q text ≡ true
implied p q f [] h = refl
implied p q f (b ∷ text) h = let parts = and_parts (p b) (list_all p text) h in
    and_from (q b) (list_all q text) (f b parts.0) (implied p q f text parts.1)

-- a property of each element gives a test of each
pub tested : (P : ℕ → Type 0) (p : ℕ → Bool) → ((b : ℕ) → P b → p b ≡ true) → (text : List ℕ) → AllByRecursion P text
    → list_all p text ≡ true
tested P p f [] h = refl
tested P p f (b ∷ text) h = and_from (p b) (list_all p text) (f b h.0) (tested P p f text h.1)

-- a byte that does not occur is not found
pub cut_lacks : (c : ℕ) (text : List ℕ) → lacks c text ≡ true → cut c text ≡ None
cut_lacks c [] h = refl
cut_lacks c (b ∷ text) h =
    let p = and_parts (not (eqb b c)) (lacks c text) h in
    let apart : eqb b c ≡ false = not_true (eqb b c) p.0 in
    rw apart (ap (option_map (λ (p : List ℕ × List ℕ). (b ∷ p.0, p.1))) (cut_lacks c text p.1))
