-- A printed text is a key text of the key, with the fewest parentheses.
use Rattle.std.proofs.Common.{◌≡◌, ℕ, suc, ◌+◌, ◌<◌, ◌≤◌, List, [], ◌∷◌, ◌++◌, append_assoc, arith, Result, Ok}
use Rattle.std.proofs.Common.{ap, ◌∙◌}
use Rattle.std.specs.Prelude.{codes, ◌^◌, ◌%◌}
use Rattle.std.specs.List.{All}
use Rattle.std.specs.Fmt.{decimal}
use Rattle.std.proofs.lemmas.Fmt.{decimal_by_steps, decimal_nonempty, length-decimal-le}
use Rattle.std.proofs.lemmas.List.Elements.{All-nil, All-cons, All-push}
use Rattle.mud_key.specs.declared.limits.TheConstants.{LAST_NUMBER}
use Rattle.mud_key.specs.Tree.{Tree, Has, Asks, Not, Join, AllObjects, IsKey}
use Rattle.mud_key.specs.inner.Keys.{IsDigit, HasLeastParentheses}
use Rattle.mud_key.specs.KeyText.{Level, Object, Unary, Chain, Spells, number, name, object, asks, not, parentheses}
use Rattle.mud_key.specs.KeyText.{unary, join, space_before, space_behind, SpellsKey, sign}
use Rattle.mud_key.specs.declared.namer.Miss.{Miss}
use Rattle.mud_key.specs.Namer.{result_map, joined_result, resolved}
use Rattle.mud_key.proofs.Complete.{one_key}
use Rattle.mud_key.specs.Printed.{number_text, by_text, in_parentheses, printed, opens, ReadsBack}

-- a text that is an object without more
abbrev pub IsObjectText : List ℕ → Type 0
IsObjectText o = Spells Object o (Has o)

record Printed (k : Tree (List ℕ)) : Type 0 where
  chain : Spells Chain (printed k) k
  operand : Spells Unary (in_parentheses k (printed k)) k

printed_spells : (k : Tree (List ℕ)) → AllObjects IsObjectText k → Printed k
printed_spells (Has o) h = record { chain = unary (object h); operand = object h }
printed_spells (Asks o) h = record { chain = unary (asks h); operand = asks h }
printed_spells (Not k) h = let p = printed_spells k h in
    record { chain = unary (not p.operand); operand = not p.operand }
printed_spells (Join op a b) h = go (printed_spells a h.0) (printed_spells b h.1)
  where
    go : Printed a → Printed b → Printed (Join op a b)
    go p q =
        let whole : Spells Chain (printed (Join op a b)) (Join op a b) =
        rw (append_assoc (printed a ++ codes " " ++ sign op) (codes " ") (in_parentheses b (printed b)))
        (join (space_behind p.chain) op (space_before q.operand)) in
        record { chain = whole; operand = parentheses whole }

pub printed_is_key_text : (k : Tree (List ℕ)) → AllObjects IsObjectText k → SpellsKey (printed k) k
printed_is_key_text k h = (printed_spells k h).chain

opens-append : (x y : List ℕ) → opens (x ++ y) ≡ opens x + opens y
opens-append [] y = omega arith
opens-append (b ∷ x) y = omega (arith, opens-append x y)

abbrev Least : Level → List ℕ → Tree (List ℕ) → Type 0
Least Object x k = opens (in_parentheses k (printed k)) ≤ opens x
Least Unary x k = opens (in_parentheses k (printed k)) ≤ opens x
Least Chain x k = opens (printed k) ≤ opens x

enclosed_at_most : (k : Tree (List ℕ)) → opens (in_parentheses k (printed k)) ≤ suc (opens (printed k))
enclosed_at_most (Has o) = omega arith
enclosed_at_most (Asks o) = omega arith
enclosed_at_most (Not k) = omega arith
enclosed_at_most (Join op a b) = omega (arith, opens-append (printed (Join op a b)) (41 ∷ []))

enclosed_at_least : (k : Tree (List ℕ)) → opens (printed k) ≤ opens (in_parentheses k (printed k))
enclosed_at_least (Has o) = omega arith
enclosed_at_least (Asks o) = omega arith
enclosed_at_least (Not k) = omega arith
enclosed_at_least (Join op a b) = omega (arith, opens-append (printed (Join op a b)) (41 ∷ []))

opens-join : (a s b : List ℕ) → opens (a ++ 32 ∷ [] ++ s ++ 32 ∷ [] ++ b) ≡ opens a + opens s + opens b
opens-join a s b =
    omega (
      arith,
      opens-append (a ++ 32 ∷ [] ++ s ++ 32 ∷ []) b,
      opens-append (a ++ 32 ∷ [] ++ s)
          (32 ∷ []),
      opens-append (a ++ 32 ∷ []) s,
      opens-append a (32 ∷ []),
    )

least : {l : Level} {x : List ℕ} {k : Tree (List ℕ)} → Spells l x k → Least l x k
least (number h) = omega arith
least (name h) = omega arith
least (object s) = least s
least (asks s) = omega (arith, least s)
least (not s) = omega (arith, least s)
least (parentheses {x = x} {k = k} s) = omega (arith, least s, enclosed_at_most k, opens-append x (41 ∷ []))
least (unary {k = k} s) = omega (arith, least s, enclosed_at_least k)
least (join {x = x} {y = y} {a = a} {b = b} s op t) =
    omega (
      arith,
      least s,
      least t,
      opens-join (printed a) (sign op) (in_parentheses b (printed b)),
      opens-append
          (x ++ sign op) y,
      opens-append x (sign op),
    )
least (space_before {l = Object} s) = omega (arith, least s)
least (space_before {l = Unary} s) = omega (arith, least s)
least (space_before {l = Chain} s) = omega (arith, least s)
least (space_behind {l = Object} {x = x} s) = omega (arith, least s, opens-append x (32 ∷ []))
least (space_behind {l = Unary} {x = x} s) = omega (arith, least s, opens-append x (32 ∷ []))
least (space_behind {l = Chain} {x = x} s) = omega (arith, least s, opens-append x (32 ∷ []))

pub printed_is_least : (k : Tree (List ℕ)) → HasLeastParentheses (printed k) k
printed_is_least k other s = least s

decimal_digits : (n : ℕ) → n < 2 ^ 64 → All IsDigit (decimal n)
decimal_digits n h =
    decimal_by_steps P (λ m small. All-cons IsDigit (48 + m) [] (omega arith, omega arith) (All-nil IsDigit))
    (λ m ds big front. All-push IsDigit ds (48 + m % 10) front (omega arith, omega arith)) n h
  where
    P : ℕ → List ℕ → Type 0
    P m ds = All IsDigit ds

number_is_object : (n : ℕ) → n ≤ LAST_NUMBER → IsObjectText (number_text n)
number_is_object n h =
    let small : n < 2 ^ 64 = omega arith in
    let few : n < 10 ^ 4 = omega arith in
    let four : 0 < 4 = omega arith in
    number (record {
      some =
          decimal_nonempty n small;
      few =
          omega (arith, length-decimal-le 4 n four few small);
      each = decimal_digits n small;
    })

all_objects : (k : Tree ℕ) → AllObjects (λ n. n ≤ LAST_NUMBER) k → AllObjects IsObjectText (by_text k)
all_objects (Has n) h = number_is_object n h
all_objects (Asks n) h = number_is_object n h
all_objects (Not k) h = all_objects k h
all_objects (Join op a b) h = (all_objects a h.0, all_objects b h.1)

key_reads_back : (k : Tree ℕ) (text : List ℕ) → AllObjects (λ n. n ≤ LAST_NUMBER) k → text ≡ printed (by_text k)
    → SpellsKey text (by_text k)
key_reads_back k text h same = rw same (printed_is_key_text (by_text k) (all_objects k h))

pub key_is_least : (k : Tree ℕ) (text : List ℕ) → text ≡ printed (by_text k) → HasLeastParentheses text (by_text k)
key_is_least k text same = rw same (printed_is_least (by_text k))

named_again : (meaning : List ℕ → Result ℕ Miss) → ((n : ℕ) → n ≤ LAST_NUMBER → meaning (number_text n) ≡ Ok n)
    → (k : Tree ℕ) → AllObjects (λ n. n ≤ LAST_NUMBER) k → resolved meaning (by_text k) ≡ Ok k
named_again meaning own (Has n) h = ap (λ (r : Result ℕ Miss). result_map Has r) (own n h)
named_again meaning own (Asks n) h = ap (λ (r : Result ℕ Miss). result_map Asks r) (own n h)
named_again meaning own (Not k) h = ap (λ (r : Result (Tree ℕ) Miss). result_map Not r) (named_again meaning own k h)
named_again meaning own (Join op a b) h =
    ap (λ (r : Result (Tree ℕ) Miss). joined_result op r (resolved meaning (by_text b))) (named_again meaning own a h.0)
    ∙ ap (λ (r : Result (Tree ℕ) Miss). joined_result op (Ok a) r) (named_again meaning own b h.1)

pub reads_back : (k : Tree ℕ) (text : List ℕ) → IsKey k → text ≡ printed (by_text k) → ReadsBack text k
reads_back k text h same = record {
  is_key_text = (by_text k, key_reads_back k text h.numbers same);
  again = λ read spells meaning own.
      ap (λ t. resolved meaning t) (one_key text read (by_text k) spells (key_reads_back k text h.numbers same))
      ∙ named_again meaning own k h.numbers;
}
