-- Literal texts, numbers and pieces: a value is read exactly from its spelling.
use Rattle.std.proofs.Common.{◌≡◌, ℕ, zero, suc, ◌<◌, ◌≤◌, true, false, cond, eqb, leb, List, [], ◌∷◌, ◌++◌, length}
use Rattle.std.proofs.Common.{Option, None, Some, refl, sym, ap, subst, ◌∙◌, append_assoc, length-append, arith, inl}
use Rattle.std.proofs.Common.{inr, ◌⊎◌, All}
use Rattle.std.specs.Fmt.{decimal}
use Rattle.std.specs.List.{flat_map}
use Rattle.std.proofs.lemmas.Bool.{cases_Bool, cond-true, cond-false, eqb-true, eq-eqb, leb-true, le-leb}
use Rattle.std.proofs.lemmas.Option.{cond_some}
use Rattle.std.proofs.lemmas.List.{append-nil}
use Rattle.std.proofs.lemmas.List.Elements.{All-nil, All-cons, All-head, All-tail}
use Rattle.std.proofs.lemmas.Slice.Eq.{bytes_eq-Decides}
use Rattle.std.specs.Str.{bytes_eq}
use Rattle.mud_key.specs.declared.limits.TheConstants.{LAST_NUMBER}
use Rattle.mud_key.specs.declared.limits.TheConstants.{AMOUNTS}
use Rattle.mud_cert.specs.inner.Reader.{◌>>=◌, after, is_digit, digits_on, number_at, object_at, whole, pieces_at}
use Rattle.mud_cert.proofs.Digits.{number-takes, number-again}

-- ---- steps

-- a step that found a value
pub bind_some : {A B : Type 0} (o : Option A) (f : A → Option B) (y : B) → (o >>= f) ≡ Some y
    → (x : A) × (o ≡ Some x) × (f x ≡ Some y)
bind_some (Some x) f y e = (x, refl, e)
bind_some None f y e = absurd cc

-- a value that no bytes follow
pub whole_some : {A : Type 0} (x : A) (rest : List ℕ) (y : A) → whole (x, rest) ≡ Some y → (x ≡ y) × (rest ≡ [])
unfolding whole
whole_some x [] y e = (cc, refl)
whole_some x (b ∷ bs) y e = absurd cc

-- one more piece of the bytes
pub joins : (all a r b s : List ℕ) → all ≡ a ++ r → r ≡ b ++ s → all ≡ (a ++ b) ++ s
joins all a r b s e f = e ∙ ap (λ (x : List ℕ). a ++ x) f ∙ sym (append_assoc a b s)

-- the last piece of the bytes
pub ends : (all a r : List ℕ) → all ≡ a ++ r → r ≡ [] → all ≡ a
ends all a r e f = e ∙ ap (λ (x : List ℕ). a ++ x) f ∙ append-nil a

-- the test says that the texts are equal
pub says-true : (a b : List ℕ) → bytes_eq a b ≡ true → a ≡ b
says-true a b = (bytes_eq-Decides a b).0

-- ---- literal texts

-- a literal text is found at the beginning
pub after-front : (literal rest : List ℕ) → after literal (literal ++ rest) ≡ Some rest
unfolding after
after-front [] rest = refl
after-front (c ∷ cs) rest = cond-true (eqb c c) (after cs (cs ++ rest)) None (eq-eqb c c refl) ∙ after-front cs rest

-- and if it is found, the bytes begin with it
pub after-takes : (literal bytes rest : List ℕ) → after literal bytes ≡ Some rest → bytes ≡ literal ++ rest
unfolding after
after-takes [] bytes rest e = cc
after-takes (c ∷ cs) [] rest e = absurd cc
after-takes (c ∷ cs) (b ∷ bs) rest e = go (cases_Bool (eqb b c)) (after-takes cs bs rest)
  where
    go : (eqb b c ≡ true) ⊎ (eqb b c ≡ false) → (after cs bs ≡ Some rest → bs ≡ cs ++ rest) → b ∷ bs ≡ c ∷ (cs ++ rest)
    go (inl same) again =
        let at : b ≡ c = eqb-true b c same in
        let tail : bs ≡ cs ++ rest = again (sym (cond-true (eqb b c) (after cs bs) None same) ∙ e) in
        cc
    go (inr fails) again =
        let bad : None ≡ Some rest = sym (cond-false (eqb b c) (after cs bs) None fails) ∙ e in
        absurd (cc)

-- if it is not found, the bytes do not begin with it
pub after-none : (literal bytes : List ℕ) → ((rest : List ℕ) → bytes ≡ literal ++ rest → ⊥) → after literal bytes ≡ None
after-none literal bytes fails = go (after literal bytes) refl
  where
    go : (o : Option (List ℕ)) → after literal bytes ≡ o → after literal bytes ≡ None
    go (Some rest) e = absurd (fails rest (after-takes literal bytes rest e))
    go None e = e

-- ---- numbers

-- the bytes do not begin with a digit
abbrev pub NoDigit : List ℕ → Type 0
NoDigit [] = Unit {0}
NoDigit (b ∷ bs) = is_digit b ≡ false

stops : (n : ℕ) (rest : List ℕ) → NoDigit rest → digits_on n rest ≡ (n, rest)
stops n [] h = refl
stops n (b ∷ bs) h = cond-false (is_digit b) _ _ h

pub number-read : (n : ℕ) (rest : List ℕ) → n < AMOUNTS → NoDigit rest
    → number_at (decimal n ++ rest) ≡ Some (n, rest)
number-read n rest few h = number-again n rest few (stops n rest h)

pub number-alone : (n : ℕ) → n < AMOUNTS → number_at (decimal n) ≡ Some (n, [])
number-alone n few = ap number_at (sym (append-nil (decimal n))) ∙ number-read n [] few tt

pub object-takes : (bytes : List ℕ) (q : ℕ × List ℕ) → object_at bytes ≡ Some q
    → (bytes ≡ decimal q.0 ++ q.1) × (q.0 ≤ LAST_NUMBER)
unfolding object_at
object-takes bytes q e =
    let b = bind_some (number_at bytes) (λ n. cond (leb n.0 LAST_NUMBER) (Some n) None) q e in
    let t = number-takes bytes b.0 b.1 in
    let g = cond_some (leb b.0.0 LAST_NUMBER) b.0 q b.2 in
    subst (λ (p : ℕ × List ℕ). (bytes ≡ decimal p.0 ++ p.1) × (p.0 ≤ LAST_NUMBER)) g.1
    (t.0, leb-true b.0.0 LAST_NUMBER g.0)

pub object-read : (n : ℕ) (rest : List ℕ) → n ≤ LAST_NUMBER → NoDigit rest
    → object_at (decimal n ++ rest) ≡ Some (n, rest)
unfolding object_at
object-read n rest low h =
    rw (number-read n rest (omega arith) h)
    (cond-true (leb n LAST_NUMBER) (Some (n, rest)) None (le-leb n LAST_NUMBER low))

pub object-alone : (n : ℕ) → n ≤ LAST_NUMBER → object_at (decimal n) ≡ Some (n, [])
object-alone n low = ap object_at (sym (append-nil (decimal n))) ∙ object-read n [] low tt

-- ---- pieces

-- a reader of one piece consumes the piece's text, and reads each text back
pub record IsReader {A : Type 0} (piece_at : List ℕ → Option (A × List ℕ)) (text : A → List ℕ)
    (Fits : A → Type 0) : Type 0 where
  pub takes : (bytes : List ℕ) (x : A × List ℕ) → piece_at bytes ≡ Some x → (bytes ≡ text x.0 ++ x.1) × Fits x.0
  pub again : (x : A) (rest : List ℕ) → Fits x → NoDigit rest → piece_at (text x ++ rest) ≡ Some (x, rest)
  pub starts : (x : A) → (tail : List ℕ) × (text x ≡ 32 ∷ tail)

pub pieces-take : {A : Type 0} (piece_at : List ℕ → Option (A × List ℕ)) (text : A → List ℕ) (Fits : A → Type 0)
    (reader : IsReader piece_at text Fits) (count : ℕ) (bytes : List ℕ) (xs : List A)
    → pieces_at piece_at count bytes ≡ Some xs → (bytes ≡ flat_map text xs) × All Fits xs
unfolding pieces_at
pieces-take piece_at text Fits reader zero [] xs e =
    let none : [] ≡ xs = cc in
    subst (λ ys. ([] ≡ flat_map text ys) × All Fits ys) none (refl, All-nil Fits)
pieces-take piece_at text Fits reader (suc count) [] xs e =
    let none : [] ≡ xs = cc in
    subst (λ ys. ([] ≡ flat_map text ys) × All Fits ys) none (refl, All-nil Fits)
pieces-take piece_at text Fits reader zero (b ∷ bs) xs e = absurd cc
pieces-take piece_at text Fits reader (suc count) (b ∷ bs) xs e =
    let first = bind_some (piece_at (b ∷ bs)) (λ x. pieces_at piece_at count x.1 >>= λ ys. Some (x.0 ∷ ys)) xs e in
    let others = bind_some (pieces_at piece_at count first.0.1) (λ ys. Some (first.0.0 ∷ ys)) xs first.2 in
    let one = reader.takes (b ∷ bs) first.0 first.1 in
    let more = pieces-take piece_at text Fits reader count first.0.1 others.0 others.1 in
    let made : first.0.0 ∷ others.0 ≡ xs = cc (others.2) in
    subst (λ ys. (b ∷ bs ≡ flat_map text ys) × All Fits ys) made
    (one.0 ∙ ap (λ (r : List ℕ). text first.0.0 ++ r) more.0, All-cons Fits first.0.0 others.0 one.1 more.1)

-- no piece begins with a digit
pieces-stop : {A : Type 0} (piece_at : List ℕ → Option (A × List ℕ)) (text : A → List ℕ) (Fits : A → Type 0)
    (reader : IsReader piece_at text Fits) (xs : List A) → NoDigit (flat_map text xs)
pieces-stop piece_at text Fits reader [] = tt
pieces-stop piece_at text Fits reader (x ∷ xs) =
    let s = reader.starts x in
    subst (λ (t : List ℕ). NoDigit (t ++ flat_map text xs)) (sym s.1) refl

pub pieces-again : {A : Type 0} (piece_at : List ℕ → Option (A × List ℕ)) (text : A → List ℕ) (Fits : A → Type 0)
    (reader : IsReader piece_at text Fits) (count : ℕ) (xs : List A)
    → All Fits xs → length (flat_map text xs) ≤ count → pieces_at piece_at count (flat_map text xs) ≡ Some xs
unfolding pieces_at
pieces-again piece_at text Fits reader zero [] fits room = refl
pieces-again piece_at text Fits reader (suc count) [] fits room = refl
pieces-again piece_at text Fits reader zero (x ∷ xs) fits room =
    let s = reader.starts x in
    absurd (omega (arith, length-append (text x) (flat_map text xs), ap length s.1))
pieces-again piece_at text Fits reader (suc count) (x ∷ xs) fits room =
    let s = reader.starts x in
    let all : text x ++ flat_map text xs ≡ 32 ∷ (s.0 ++ flat_map text xs) =
    ap (λ (t : List ℕ). t ++ flat_map text xs) s.1 in
    let one : piece_at (32 ∷ (s.0 ++ flat_map text xs)) ≡ Some (x, flat_map text xs) = ap piece_at (sym all)
    ∙ reader.again x (flat_map text xs) (All-head Fits x xs fits) (pieces-stop piece_at text Fits reader xs) in
    let left : length (flat_map text xs) ≤ count =
    omega (arith, length-append (text x) (flat_map text xs), ap length s.1) in
    let more = pieces-again piece_at text Fits reader count xs (All-tail Fits x xs fits) left in
    ap (pieces_at piece_at (suc count)) all ∙ rw (one, more) refl

-- the pieces read so far, and the rest
pub record IsUnder {A : Type 0} (piece_at : List ℕ → Option (A × List ℕ)) (front : List A) (rest : List ℕ)
    (total : Option (List A)) : Type 0 where
  pub count : ℕ
  pub room : length rest ≤ count
  pub same : (pieces_at piece_at count rest >>= λ xs. Some (front ++ xs)) ≡ total

pub under-start : {A : Type 0} (piece_at : List ℕ → Option (A × List ℕ)) (bytes : List ℕ)
    → IsUnder piece_at [] bytes (pieces_at piece_at (length bytes) bytes)
under-start {A = A} piece_at bytes =
    record { count = length bytes; room = omega arith; same = keeps (pieces_at piece_at (length bytes) bytes) }
  where
    keeps : (o : Option (List A)) → (o >>= λ xs. Some ([] ++ xs)) ≡ o
    keeps (Some xs) = refl
    keeps None = refl

-- each piece makes the rest shorter
pub shorter : {A : Type 0} (piece_at : List ℕ → Option (A × List ℕ)) (text : A → List ℕ) (Fits : A → Type 0)
    (reader : IsReader piece_at text Fits) (rest : List ℕ) (x : A) (behind : List ℕ)
    → piece_at rest ≡ Some (x, behind) → length behind < length rest
shorter piece_at text Fits reader rest x behind e =
    let t = reader.takes rest (x, behind) e in
    let s = reader.starts x in
    omega (arith, length-append (text x) behind, ap length s.1, ap length t.0)

regroup : {A : Type 0} (front : List A) (x : A) (o : Option (List A))
    → ((o >>= λ xs. Some (x ∷ xs)) >>= λ xs. Some (front ++ xs)) ≡ (o >>= λ xs. Some ((front ++ x ∷ []) ++ xs))
regroup front x (Some xs) = ap Some (sym (append_assoc front (x ∷ []) xs))
regroup front x None = refl

pub under-more : {A : Type 0} (piece_at : List ℕ → Option (A × List ℕ)) (text : A → List ℕ) (Fits : A → Type 0)
    (reader : IsReader piece_at text Fits) (front : List A) (rest : List ℕ)
    (total : Option (List A)) (x : A) (behind : List ℕ)
    → piece_at rest ≡ Some (x, behind) → IsUnder piece_at front rest total
    → IsUnder piece_at (front ++ x ∷ []) behind total
unfolding pieces_at
under-more piece_at text Fits reader front rest total x behind e under =
    go rest under.count e under.room under.same (shorter piece_at text Fits reader rest x behind e)
  where
    go : (r : List ℕ) (k : ℕ) → piece_at r ≡ Some (x, behind) → length r ≤ k
        → (pieces_at piece_at k r >>= λ xs. Some (front ++ xs)) ≡ total → length behind < length r
        → IsUnder piece_at (front ++ x ∷ []) behind total
    go [] k f room same less = absurd (omega arith)
    go (b ∷ bs) zero f room same less = absurd (omega arith)
    go (b ∷ bs) (suc k) f room same less = record {
      count = k;
      room = omega arith;
      same = sym (regroup front x (pieces_at piece_at k behind)) ∙ sym (rw f refl) ∙ same;
    }

pub under-fails : {A : Type 0} (piece_at : List ℕ → Option (A × List ℕ)) (front : List A) (rest : List ℕ)
    (total : Option (List A)) → piece_at rest ≡ None → 0 < length rest
    → IsUnder piece_at front rest total → total ≡ None
unfolding pieces_at
under-fails {A = A} piece_at front rest total e some under = go rest under.count e some under.room under.same
  where
    go : (r : List ℕ) (k : ℕ) → piece_at r ≡ None → 0 < length r → length r ≤ k
        → (pieces_at piece_at k r >>= λ xs. Some (front ++ xs)) ≡ total → total ≡ None
    go [] k f full room same = absurd (omega arith)
    go (b ∷ bs) zero f full room same = absurd (omega arith)
    go (b ∷ bs) (suc k) f full room same =
        let one : (pieces_at piece_at (suc k) (b ∷ bs) >>= λ xs. Some (front ++ xs)) ≡ None = rw f refl in
        sym same ∙ one

pub under-done : {A : Type 0} (piece_at : List ℕ → Option (A × List ℕ)) (front : List A) (rest : List ℕ)
    (total : Option (List A)) → length rest ≡ 0 → IsUnder piece_at front rest total → total ≡ Some front
unfolding pieces_at
under-done {A = A} piece_at front rest total e under = go rest under.count e under.same
  where
    go : (r : List ℕ) (k : ℕ) → length r ≡ 0
        → (pieces_at piece_at k r >>= λ xs. Some (front ++ xs)) ≡ total → total ≡ Some front
    go [] zero f same = sym same ∙ ap Some (append-nil front)
    go [] (suc k) f same = sym same ∙ ap Some (append-nil front)
    go (b ∷ bs) k f same = absurd (omega arith)
