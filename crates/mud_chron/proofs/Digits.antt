-- The spelling of a number reads back as the number.
use Rattle.std.proofs.Common.{◌≡◌, ℕ, ◌+◌, ◌-◌, ◌*◌, ◌/◌, ◌%◌, ◌^◌, ◌<◌, ◌≤◌, true, List, [], ◌∷◌, ◌++◌}
use Rattle.std.proofs.Common.{Option, Some, None, leb, ltb, refl, sym, ◌∙◌, ap, arith}
use Rattle.std.proofs.Common.{append_assoc, eqb}
use Rattle.std.specs.Prelude.{◌&&◌, not}
use Rattle.std.specs.List.{list_all}
use Rattle.std.specs.Fmt.{decimal}
use Rattle.std.proofs.lemmas.Fmt.{decimal_by_steps}
use Rattle.std.proofs.lemmas.List.{append-nil}
use Rattle.std.proofs.lemmas.List.Folds.{list_all-append}
use Rattle.std.proofs.lemmas.Bool.{cond-true, and_from, and_parts, le-leb, leb-true, lt-ltb, ne_eqb}
use Rattle.mud_key.specs.declared.codes.TheConstants.{SPACE, ZERO, NINE}
use Rattle.mud_key.specs.declared.limits.TheConstants.{AMOUNTS, LAST_NUMBER}
use Rattle.mud_key.specs.Printed.{number_text}
use Rattle.mud_chron.specs.declared.fields.TheConstants.{ROOM_FOR_A_DIGIT}
use Rattle.mud_chron.specs.inner.Fields.{is_digit, digits_on, up_to, object_in}
use Rattle.mud_chron.specs.inner.Reader.{◌>>=◌, object_before}
use Rattle.mud_chron.proofs.Cutting.{lacks, cut_again, implied}

step : (n b : ℕ) (bs : List ℕ) → is_digit b ≡ true → n < ROOM_FOR_A_DIGIT
    → digits_on n (b ∷ bs) ≡ digits_on (n * 10 + (b - ZERO)) bs
step n b bs e few =
    cond-true (is_digit b && ltb n ROOM_FOR_A_DIGIT) (digits_on (n * 10 + (b - ZERO)) bs) None
    (and_from (is_digit b) (ltb n ROOM_FOR_A_DIGIT) e (lt-ltb n ROOM_FOR_A_DIGIT few))

is-digit : (b : ℕ) → ZERO ≤ b → b ≤ NINE → is_digit b ≡ true
is-digit b lo hi = and_from (leb ZERO b) (leb b NINE) (le-leb ZERO b lo) (le-leb b NINE hi)

-- reading the digits of a number gives the number
reads-on : (n : ℕ) → n < AMOUNTS → (rest : List ℕ) → digits_on 0 (decimal n ++ rest) ≡ digits_on n rest
reads-on n few =
    decimal_by_steps (λ n ds. n < AMOUNTS → (rest : List ℕ) → digits_on 0 (ds ++ rest) ≡ digits_on n rest)
    (λ n small few rest.
    let d : 0 * 10 + (ZERO + n - ZERO) ≡ n = omega arith in
    step 0 (ZERO + n) rest (is-digit (ZERO + n) (omega arith) (omega arith)) (omega arith)
    ∙ ap (λ k. digits_on k rest) d)
    (λ n ds big known few rest.
    let d : n / 10 * 10 + (ZERO + n % 10 - ZERO) ≡ n = omega arith in
    let lo : ZERO + n % 10 ≤ NINE = omega arith in
    ap (digits_on 0) (append_assoc ds ((ZERO + n % 10) ∷ []) rest)
    ∙ known (omega arith) ((ZERO + n % 10) ∷ rest)
    ∙ step (n / 10) (ZERO + n % 10) rest (is-digit (ZERO + n % 10) (omega arith) lo) (omega arith)
    ∙ ap (λ k. digits_on k rest) d)
    n (omega arith) few

-- the spelling of a number consists of digits
pub digits : (n : ℕ) → n < 2 ^ 64 → list_all is_digit (decimal n) ≡ true
digits n fits = decimal_by_steps (λ n ds. list_all is_digit ds ≡ true)
    (λ n small. and_from (is_digit (ZERO + n)) true (is-digit (ZERO + n) (omega arith) (omega arith)) refl)
    (λ n ds big front.
    list_all-append is_digit ds ((ZERO + n % 10) ∷ [])
    ∙ and_from (list_all is_digit ds) (list_all is_digit ((ZERO + n % 10) ∷ [])) front
    (and_from (is_digit (ZERO + n % 10)) true (is-digit (ZERO + n % 10) (omega arith) (omega arith)) refl))
    n fits

-- the spelling contains no byte below the digits
pub decimal_lacks : (c n : ℕ) → c < ZERO → n < 2 ^ 64 → lacks c (decimal n) ≡ true
decimal_lacks c n low fits =
    implied is_digit (λ b. not (eqb b c))
    (λ b e. ap not
    (ne_eqb b c (λ same. let p = and_parts (leb ZERO b) (leb b NINE) e in absurd (omega (arith, leb-true ZERO b p.0)))))
    (decimal n) (digits n fits)

pub number_again : (most n : ℕ) → n ≤ most → n < AMOUNTS → up_to most (digits_on 0 (decimal n)) ≡ Some n
number_again most n le few =
    ap (up_to most) (ap (digits_on 0) (sym (append-nil (decimal n))) ∙ reads-on n few [])
    ∙ cond-true (leb n most) (Some n) None (le-leb n most le)

pub object_again : (n : ℕ) → n ≤ LAST_NUMBER → object_in (number_text n) ≡ Some n
object_again n le = number_again LAST_NUMBER n le (omega arith)

pub object_before_again : (n : ℕ) (rest : List ℕ) → n ≤ LAST_NUMBER
    → object_before (number_text n ++ SPACE ∷ rest) ≡ Some (n, rest)
unfolding object_before
object_before_again n rest le =
    ap (λ (o : Option (List ℕ × List ℕ)). o >>= (λ p. object_in p.0 >>= (λ n. Some (n, p.1))))
    (cut_again SPACE (number_text n) rest (decimal_lacks SPACE n (omega arith) (omega arith)))
    ∙ ap (λ (o : Option ℕ). o >>= (λ n. Some (n, rest))) (object_again n le)
