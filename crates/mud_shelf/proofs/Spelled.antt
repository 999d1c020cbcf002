-- Names of volumes, and their numbers.
use Rattle.std.proofs.Common.{◌≡◌, ◌≢◌, ◌≤◌, ◌<◌, ◌⊎◌, inl, inr, ⊎_elim, ℕ, Bool, true, nat_eq}
use Rattle.std.proofs.Common.{List, [], ◌∷◌, ◌++◌}
use Rattle.std.proofs.Common.{Result, Ok, Err, Option, None, Some, MatchOption, length, take, get_or}
use Rattle.std.proofs.Common.{refl, sym, ◌∙◌, ap, subst, arith, append_assoc}
use Rattle.std.proofs.Common.{◌+◌, map, Global, String, string_bytes}
use Rattle.std.specs.Prelude.{codes, not, max, unwrap_or, if◌then◌else◌}
use lib.Pointwise.{pointwise}
use Rattle.std.specs.Fmt.{decimal}
use Rattle.std.specs.Str.Parse.{ParsesUnsigned}
use Rattle.std.proofs.lemmas.Bool.{eq-eqb, ne_eqb, cases_eq, cases_lt, true≢false}
use Rattle.std.proofs.lemmas.Slice.Eq.{bytes_eq-Decides}
use Rattle.std.proofs.lemmas.List.Elements.{Contains-push_cases, Contains-append_left, Contains-append_right}
use Rattle.std.proofs.lemmas.List.{append-nil, append_cancel_left, take_more, take_all, map_push}
use Rattle.std.proofs.lemmas.Fmt.{decimal_injective, parse-decimal}
use Rattle.mud_shelf.specs.declared.names.TheConstants.{MOST_VOLUMES}
use Rattle.mud_shelf.specs.Names.{IsVolume, volume_name, HasVolume, IsLatest}
use Rattle.mud_shelf.specs.Laws.{NamesDiffer}

-- ---- numbers

-- what is spelled as a number is read as it
pub reads : {E : Type 0} (bytes : List ℕ) (r : Result ℕ E) → ParsesUnsigned 32 10 bytes r → (n : ℕ) → n ≤ MOST_VOLUMES
    → bytes ≡ decimal n → r ≡ Ok n
reads bytes r parses n le is = parse-decimal 32 n bytes r (omega (arith, le)) (omega (arith, le)) is parses

-- what is no number is not spelled as one
pub unread : {E : Type 0} (bytes : List ℕ) (e : E) (r : Result ℕ E) → r ≡ Err e → ParsesUnsigned 32 10 bytes r
    → (n : ℕ) → n ≤ MOST_VOLUMES → bytes ≡ decimal n → ⊥
unread bytes e r fails parses n le is = absurd (let ok = reads bytes r parses n le is in cc)

-- what is spelled as a number is spelled as the one that is read
pub read_as : {E : Type 0} (bytes : List ℕ) (m : ℕ) (r : Result ℕ E) → r ≡ Ok m → ParsesUnsigned 32 10 bytes r
    → (n : ℕ) → n ≤ MOST_VOLUMES → bytes ≡ decimal n → n ≡ m
read_as bytes m r is_m parses n le is = let ok = reads bytes r parses n le is in cc

-- texts that are told apart differ
pub apart : (a b : List ℕ) (r : Bool) → r ≡ true → r ≡ not (pointwise nat_eq a b) → a ≡ b → ⊥
apart a b r differ is same =
    true≢false (sym differ ∙ is ∙ ap not ((bytes_eq-Decides a b).1 same))

-- ---- names

nonempty : (digits : List ℕ) → codes "." ++ digits ≡ [] → ⊥
nonempty digits is = absurd (cc)

first_is : (journal : List ℕ) (n : ℕ) → n ≡ 1 → volume_name journal n ≡ journal
first_is journal n is = ap (λ b. if b then journal else journal ++ codes "." ++ decimal n) (eq-eqb n 1 is)

later_is : (journal : List ℕ) (n : ℕ) → 2 ≤ n → volume_name journal n ≡ journal ++ codes "." ++ decimal n
later_is journal n later =
    ap (λ b. if b then journal else journal ++ codes "." ++ decimal n) (ne_eqb n 1 (λ is. omega (arith, later, is)))

-- the name of a volume begins with the journal's, and behind that is nothing, or a point and the number
pub record Behind (journal : List ℕ) (n : ℕ) (rest : List ℕ) : Type 0 where
  pub name : volume_name journal n ≡ journal ++ rest
  pub is : (n ≡ 1) × (rest ≡ []) ⊎ (2 ≤ n) × (rest ≡ codes "." ++ decimal n)

pub behind : (journal : List ℕ) (n : ℕ) → IsVolume n → (rest : List ℕ) × Behind journal n rest
behind journal n volume =
    ⊎_elim
    (λ (one : n ≡ 1).
    ([], record { name = first_is journal n one ∙ sym (append-nil journal); is = inl (one, refl) }))
    (λ (other : n ≢ 1).
    let later : 2 ≤ n = let from = volume.0 in omega (arith, from, other) in (
      codes "." ++ decimal n,
      record {
        name = later_is journal n later ∙ append_assoc journal (codes ".") (decimal n);
        is = inr (later, refl);
      },
    ))
    (cases_eq n 1)

-- what does not begin with the journal's name is no volume's
pub no_front : (journal name : List ℕ) → ((rest : List ℕ) → name ≡ journal ++ rest → ⊥) → (n : ℕ) → IsVolume n
    → name ≡ volume_name journal n → ⊥
no_front journal name none n volume is = let b = behind journal n volume in none b.0 (is ∙ b.1.name)

-- what stands behind the journal's name is one of the two
rest_is : (journal name rest : List ℕ) → name ≡ journal ++ rest → (n : ℕ) → IsVolume n → name ≡ volume_name journal n
    → (n ≡ 1) × (rest ≡ []) ⊎ (2 ≤ n) × (rest ≡ codes "." ++ decimal n)
rest_is journal name rest front n volume is =
    let b = behind journal n volume in
    let same : rest ≡ b.0 = append_cancel_left journal rest b.0 (sym front ∙ is ∙ b.1.name) in
    subst (λ r. (n ≡ 1) × (r ≡ []) ⊎ (2 ≤ n) × (r ≡ codes "." ++ decimal n)) (sym same) b.1.is

-- behind the journal's name and a point stand these digits
pub by_digits : (journal name rest digits : List ℕ) (r : Option ℕ) → name ≡ journal ++ rest → rest ≡ codes "." ++ digits
    → MatchOption r ((n : ℕ) → 2 ≤ n → n ≤ MOST_VOLUMES → digits ≡ decimal n → ⊥)
    (λ n. (2 ≤ n) × (n ≤ MOST_VOLUMES) × (digits ≡ decimal n))
    → MatchOption r ((n : ℕ) → IsVolume n → name ≡ volume_name journal n → ⊥)
    (λ n. IsVolume n × (name ≡ volume_name journal n))
by_digits journal name rest digits None front point none = λ n volume is.
    ⊎_elim
    (λ one. absurd (nonempty digits (sym point ∙ one.1)))
    (λ later. none n later.0 volume.1
    (append_cancel_left (codes ".") digits (decimal n) (sym point ∙ later.1)))
    (rest_is journal name rest front n volume is)
by_digits journal name rest digits (Some n) front point found = (
  (let from = found.0 in omega (arith, from), found.1),
  front ∙ ap (λ r. journal ++ r) (point ∙ ap (λ d. codes "." ++ d) found.2)
      ∙ sym (append_assoc journal (codes ".") (decimal n)) ∙ sym (later_is journal n found.0),
)

-- ---- names differ

pub names_differ : NamesDiffer
names_differ journal m n of_m of_n same =
    let b = behind journal n of_n in
    let of_rest = rest_is journal (volume_name journal m) b.0 (same ∙ b.1.name) m of_m refl in
    ⊎_elim
    (λ one. ⊎_elim
    (λ first. first.0 ∙ sym one.0)
    (λ later. absurd (nonempty (decimal m) (sym later.1 ∙ one.1)))
    of_rest)
    (λ late. ⊎_elim
    (λ first. absurd (nonempty (decimal n) (sym late.1 ∙ first.1)))
    (λ later.
    decimal_injective m n (let to = of_m.1 in omega (arith, to)) (let to = of_n.1 in omega (arith, to))
    (append_cancel_left (codes ".") (decimal m) (decimal n) (sym later.1 ∙ late.1)))
    of_rest)
    b.1.is

-- ---- the latest

-- no volume has a higher number, and this is one, unless there is none
pub record IsMost (journal : List ℕ) (names : List (List ℕ)) (latest : ℕ) : Type 0 where
  pub highest : (n : ℕ) → HasVolume journal names n → n ≤ latest
  pub there : (latest ≡ 0) ⊎ HasVolume journal names latest

max_zero : (n : ℕ) → max 0 n ≡ n
max_zero n = omega arith

pub most_of_none : (journal : List ℕ) → IsMost journal [] 0
most_of_none journal = record {
  highest = λ n has. let less = has.1.1 in absurd (omega (arith, less));
  there = inl refl;
}

-- a name more
pub most_of_more : (journal name : List ℕ) (names : List (List ℕ)) (latest : ℕ) (r : Option ℕ)
    → IsMost journal names latest
    → MatchOption r ((n : ℕ) → IsVolume n → name ≡ volume_name journal n → ⊥)
    (λ n. IsVolume n × (name ≡ volume_name journal n))
    → IsMost journal (names ++ name ∷ []) (max (unwrap_or r 0) latest)
most_of_more journal name names latest None most none = record {
  highest = λ n has. ⊎_elim
      (λ old. let le = most.highest n (has.0, old) in omega (arith, le))
      (λ new. absurd (none n has.0 new))
      (Contains-push_cases names name (volume_name journal n) has.1);
  there = subst (λ n. (n ≡ 0) ⊎ HasVolume journal (names ++ name ∷ []) n) (sym (max_zero latest))
      (⊎_elim
      (λ zero. inl zero)
      (λ old. inr (old.0, Contains-append_left names (name ∷ []) (volume_name journal latest) old.1))
      most.there);
}
most_of_more journal name names latest (Some m) most found = record {
  highest = λ n has. ⊎_elim
      (λ old. let le = most.highest n (has.0, old) in omega (arith, le))
      (λ new. let same = names_differ journal n m has.0 found.0 (sym new ∙ found.1) in omega (arith, same))
      (Contains-push_cases names name (volume_name journal n) has.1);
  there = inr (higher (cases_lt m latest) most.there);
}
  where
    new : HasVolume journal (names ++ name ∷ []) m
    new = (
      found.0,
      Contains-append_right names (name ∷ []) (volume_name journal m) (0, omega arith, found.1),
    )

    higher : (m < latest) ⊎ (latest ≤ m) → (latest ≡ 0) ⊎ HasVolume journal names latest
        → HasVolume journal (names ++ name ∷ []) (max m latest)
    higher (inr le) there = subst (HasVolume journal (names ++ name ∷ [])) (omega (arith, le)) new
    higher (inl less) (inl zero) = absurd (omega (arith, less, zero))
    higher (inl less) (inr old) =
        subst (HasVolume journal (names ++ name ∷ [])) (omega (arith, less))
        (old.0, Contains-append_left names (name ∷ []) (volume_name journal latest) old.1)

pub none_of_most : (journal : List ℕ) (names : List (List ℕ)) (latest : ℕ) → IsMost journal names latest → latest ≡ 0
    → (n : ℕ) → HasVolume journal names n → ⊥
none_of_most journal names latest most zero n has =
    let le = most.highest n has in let from = has.0.0 in omega (arith, le, from, zero)

pub latest_of_most : (journal : List ℕ) (names : List (List ℕ)) (latest : ℕ) → IsMost journal names latest
    → (latest ≡ 0 → ⊥) → IsLatest journal names latest
latest_of_most journal names latest most some = record {
  there = ⊎_elim (λ zero. absurd (some zero)) (λ there. there) most.there;
  highest = λ m more has. let le = most.highest m has in omega (arith, le, more);
}

-- one more of the names of a list
pub most_of_next : (journal : List ℕ) (names : List (String Global)) (i : ℕ) (d : String Global) (text : List ℕ)
    (latest now : ℕ) (r : Option ℕ) → i < length names → text ≡ string_bytes (get_or names i d)
    → IsMost journal (map string_bytes (take i names)) latest
    → MatchOption r ((n : ℕ) → IsVolume n → text ≡ volume_name journal n → ⊥)
    (λ n. IsVolume n × (text ≡ volume_name journal n))
    → now ≡ max (unwrap_or r 0) latest → IsMost journal (map string_bytes (take (i + 1) names)) now
most_of_next journal names i d text latest now r within text_is most found now_is =
    let more : map string_bytes (take (i + 1) names) ≡ map string_bytes (take i names) ++ text ∷ [] =
    ap (map string_bytes) (take_more names i d within) ∙ map_push string_bytes (take i names) (get_or names i d)
    ∙ ap (λ t. map string_bytes (take i names) ++ t ∷ []) (sym text_is) in
    subst (λ l. IsMost journal l now) (sym more)
    (subst (IsMost journal (map string_bytes (take i names) ++ text ∷ [])) (sym now_is)
    (most_of_more journal text (map string_bytes (take i names)) latest r most found))

-- all of them
pub most_of_all : (journal : List ℕ) (names : List (String Global)) (i latest : ℕ) → length names ≤ i
    → IsMost journal (map string_bytes (take i names)) latest → IsMost journal (map string_bytes names) latest
most_of_all journal names i latest all most =
    subst (λ l. IsMost journal (map string_bytes l) latest) (take_all i names all) most
