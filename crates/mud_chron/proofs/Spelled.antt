-- The parts of a line: their bytes, and that each reads back.
use Rattle.std.proofs.Common.{◌≡◌, ℕ, ◌<◌, ◌≤◌, Bool, true, List, [], ◌∷◌, ◌++◌, length, Option, Some, None}
use Rattle.std.proofs.Common.{Ok, refl, sym, ◌∙◌, ap, subst, arith, eqb, leb, ltb, cond, append_assoc}
use Rattle.std.proofs.Common.{codes}
use Rattle.std.specs.Prelude.{not, ◌&&◌, ◌^◌}
use Rattle.std.specs.List.{AllByRecursion, list_all, flat_map}
use Rattle.std.proofs.lemmas.Bool.{and_from, and_parts, ne_eqb, leb-true, le-ltb}
use Rattle.std.proofs.lemmas.List.{append-nil}
use Rattle.std.proofs.lemmas.List.Folds.{list_all-append}
use Rattle.std.proofs.lemmas.List.Elements.{recursion_from_All}
use Rattle.std.specs.Fmt.{decimal}
use Rattle.mud_key.specs.declared.codes.TheConstants.{SPACE, COMMA, ZERO, NINE, TILDE}
use Rattle.mud_key.specs.declared.limits.TheConstants.{LAST_NUMBER}
use Rattle.mud_key.specs.Name.{IsName, IsNameByte}
use Rattle.mud_key.specs.Names.{AreNames}
use Rattle.mud_key.specs.inner.NamesTexts.{SpellsName, SpellsNames, one, more}
use Rattle.mud_key.specs.Finds.{names_in, name_in}
use Rattle.mud_key.specs.Tree.{Tree, Has, Asks, Not, Join, objects_of, nots_of, AllObjects, IsWithinLimits, IsKey}
use Rattle.mud_key.specs.KeyText.{sign, SpellsKey}
use Rattle.mud_key.specs.Printed.{number_text, by_text, in_parentheses, printed}
use Rattle.mud_key.specs.Namer.{resolved}
use Rattle.mud_key.specs.declared.namer.Miss.TheVariants.{NoSuch}
use Rattle.std.specs.Option.{ok_or}
use Rattle.mud_key.specs.declared.operator.Operator.{Operator}
use Rattle.mud_key.specs.declared.operator.Operator.TheVariants.{And, Or}
use Rattle.mud_key.proofs.Found.{names_law, name_law, key_law}
use Rattle.mud_key.proofs.LeastParentheses.{reads_back}
use Rattle.mud_key.proofs.Resolving.{CountsAs, resolved_counts}
use Rattle.mud_world.specs.declared.limits.TheConstants.{MOST_SPEECH}
use Rattle.mud_world.specs.Speech.{is_trimmed, is_speech}
use Rattle.mud_world.specs.inner.Fields.{is_printable}
use Rattle.mud_chron.specs.declared.codes.TheConstants.{QUOTE}
use Rattle.mud_chron.specs.inner.Fields.{with_commas}
use Rattle.mud_chron.specs.Text.{in_quotes}
use Rattle.mud_chron.specs.inner.Fields.{is_digit}
use Rattle.mud_chron.specs.inner.Reader.{◌>>=◌, cut, without_miss, number_key_in, speech_in, meaning, names_before}
use Rattle.mud_chron.specs.inner.Reader.{quoted_in, quoted_name_in}
use Rattle.mud_chron.proofs.Cutting.{lacks, cut_again, implied, tested}
use Rattle.mud_chron.proofs.Digits.{digits, object_again}

-- ---- bytes

-- a byte from the space to the tilde
abbrev pub plain : ℕ → Bool
plain b = not (ltb b SPACE) && not (ltb TILDE b)

pub plain_from : (b : ℕ) → SPACE ≤ b → b ≤ TILDE → plain b ≡ true
plain_from b lo hi =
    and_from (not (ltb b SPACE)) (not (ltb TILDE b)) (ap not (le-ltb b SPACE lo)) (ap not (le-ltb TILDE b hi))

pub both : (p : ℕ → Bool) (x y : List ℕ) → list_all p x ≡ true → list_all p y ≡ true → list_all p (x ++ y) ≡ true
both p x y h k = list_all-append p x y ∙ and_from (list_all p x) (list_all p y) h k

pub plain_decimal : (n : ℕ) → n < 2 ^ 64 → list_all plain (decimal n) ≡ true
plain_decimal n fits =
    implied is_digit plain
    (λ b e. let p = and_parts (leb ZERO b) (leb b NINE) e in
    plain_from b (omega (arith, leb-true ZERO b p.0)) (omega (arith, leb-true b NINE p.1))) (decimal n) (digits n fits)

-- ---- names

-- each name passes the test
all_names : (p : ℕ → Bool) → ((b : ℕ) → IsNameByte b → p b ≡ true) → (name : List ℕ) → IsName name
    → list_all p name ≡ true
all_names p f name is = tested IsNameByte p f name (recursion_from_All IsNameByte name is.text.bytes)

others_pass : (p : ℕ → Bool) → ((b : ℕ) → IsNameByte b → p b ≡ true) → p COMMA ≡ true → (names : List (List ℕ))
    → AllByRecursion IsName names → list_all p (flat_map (λ other. codes "," ++ other) names) ≡ true
others_pass p f comma [] h = refl
others_pass p f comma (name ∷ names) h =
    both p (codes "," ++ name) (flat_map (λ other. codes "," ++ other) names)
    (and_from (p COMMA) (list_all p name) comma (all_names p f name h.0)) (others_pass p f comma names h.1)

pub listed_pass : (p : ℕ → Bool) → ((b : ℕ) → IsNameByte b → p b ≡ true) → p COMMA ≡ true → (names : List (List ℕ))
    → AllByRecursion IsName names → list_all p (with_commas names) ≡ true
listed_pass p f comma [] h = refl
listed_pass p f comma (name ∷ names) h =
    both p name (flat_map (λ other. codes "," ++ other) names) (all_names p f name h.0)
    (others_pass p f comma names h.1)

plain_byte : (b : ℕ) → IsNameByte b → plain b ≡ true
plain_byte b h = plain_from b h.from h.to

no_quote : (b : ℕ) → IsNameByte b → not (eqb b QUOTE) ≡ true
no_quote b h = ap not (ne_eqb b QUOTE h.plain.0)

listed_lacks : (names : List (List ℕ)) → AllByRecursion IsName names → lacks QUOTE (with_commas names) ≡ true
listed_lacks names h = listed_pass (λ b. not (eqb b QUOTE)) no_quote refl names h

pub plain_quoted : (names : List (List ℕ)) → AllByRecursion IsName names → list_all plain (in_quotes names) ≡ true
plain_quoted names h = both plain (with_commas names) (codes "\"") (listed_pass plain plain_byte refl names h) refl

each_of : (names : List (List ℕ)) → AreNames names → AllByRecursion IsName names
each_of names h = recursion_from_All IsName names h.each

pub plain_names : (names : List (List ℕ)) → AreNames names → list_all plain (in_quotes names) ≡ true
plain_names names h = plain_quoted names (each_of names h)

alone : (name : List ℕ) → IsName name → SpellsName name name
alone name is = record { before = 0; behind = 0; spaces = sym (append-nil name); is_name = is }

spells : (name : List ℕ) (names : List (List ℕ)) → AllByRecursion IsName (name ∷ names)
    → SpellsNames (with_commas (name ∷ names)) (name ∷ names)
spells name [] h = subst (λ x. SpellsNames x (name ∷ [])) (sym (append-nil name)) (one (alone name h.0))
spells name (next ∷ names) h =
    let same : name ++ codes "," ++ with_commas (next ∷ names) ≡ with_commas (name ∷ next ∷ names) =
    append_assoc name (codes ",") (with_commas (next ∷ names)) in
    subst (λ x. SpellsNames x (name ∷ next ∷ names)) same (more (alone name h.0) (spells next names h.1))

pub names_again : (names : List (List ℕ)) → AreNames names → names_in (with_commas names) ≡ Some names
names_again [] h = absurd (omega (arith, h.some))
names_again (name ∷ names) h =
    (names_law (with_commas (name ∷ names)) (name ∷ names)).1
    (record { spells = spells name names (each_of (name ∷ names) h); few = h.few })

pub names_before_again : (names : List (List ℕ)) (rest : List ℕ) → AreNames names
    → names_before ((with_commas names ++ codes "\"") ++ rest) ≡ Some (names, rest)
unfolding names_before
names_before_again names rest h =
    ap (λ (o : Option (List ℕ × List ℕ)). o >>= (λ p. names_in p.0 >>= (λ names. Some (names, p.1))))
    (ap (cut QUOTE) (append_assoc (with_commas names) (codes "\"") rest)
    ∙ cut_again QUOTE (with_commas names) rest (listed_lacks names (each_of names h)))
    ∙ ap (λ (o : Option (List (List ℕ))). o >>= (λ names. Some (names, rest))) (names_again names h)

pub quoted_again : (names : List (List ℕ)) (rest : List ℕ) → AreNames names
    → quoted_in (in_quotes names ++ rest) ≡ Some (names, rest)
unfolding quoted_in
quoted_again names rest h = names_before_again names rest h

pub quoted_end : (names : List (List ℕ)) → AreNames names → quoted_in (in_quotes names) ≡ Some (names, [])
quoted_end names h = ap quoted_in (sym (append-nil (in_quotes names))) ∙ quoted_again names [] h

pub name_again : (name : List ℕ) → IsName name → quoted_name_in (in_quotes (name ∷ [])) ≡ Some name
unfolding quoted_name_in
name_again name is =
    ap (λ (o : Option (List ℕ × List ℕ)). o >>= (λ q. name_in q.0))
    (cut_again QUOTE (with_commas (name ∷ [])) [] (listed_lacks (name ∷ []) (is, tt)))
    ∙ ap name_in (append-nil name) ∙ (name_law name name).1 (refl, is)

-- ---- keys

plain_sign : (op : Operator) → list_all plain (sign op) ≡ true
plain_sign And = refl
plain_sign Or = refl

plain_enclosed : (k : Tree (List ℕ)) (text : List ℕ) → list_all plain text ≡ true
    → list_all plain (in_parentheses k text) ≡ true
plain_enclosed (Has o) text h = h
plain_enclosed (Asks o) text h = h
plain_enclosed (Not k) text h = h
plain_enclosed (Join op a b) text h = both plain text (codes ")") h refl

plain_number : (n : ℕ) → n ≤ LAST_NUMBER → list_all plain (number_text n) ≡ true
plain_number n h = plain_decimal n (omega arith)

pub plain_key : (k : Tree ℕ) → AllObjects (λ n. n ≤ LAST_NUMBER) k → list_all plain (printed (by_text k)) ≡ true
plain_key (Has n) h = plain_number n h
plain_key (Asks n) h = plain_number n h
plain_key (Not k) h = plain_enclosed (by_text k) (printed (by_text k)) (plain_key k h)
plain_key (Join op a b) h =
    let left : List ℕ = printed (by_text a) in
    let right : List ℕ = in_parentheses (by_text b) (printed (by_text b)) in
    both plain (left ++ codes " " ++ sign op ++ codes " ") right
    (both plain (left ++ codes " " ++ sign op) (codes " ")
    (both plain (left ++ codes " ") (sign op) (both plain left (codes " ") (plain_key a h.0) refl)
    (plain_sign op)) refl)
    (plain_enclosed (by_text b) (printed (by_text b)) (plain_key b h.1))

-- a key has the counts of its text
counted : (t : Tree (List ℕ)) (k : Tree ℕ) → CountsAs (objects_of t) (nots_of t) (Ok k) → IsKey k → IsWithinLimits t
counted t k c is = record { objects = omega (arith, c.0, is.limits.objects); nots = omega (arith, c.1, is.limits.nots) }

-- the tree read from a key's text resolves to that key
pub key_resolved : (key : Tree ℕ) (read : Tree (List ℕ)) → IsKey key → SpellsKey (printed (by_text key)) read
    → resolved meaning read ≡ Ok key
key_resolved key read is spells =
    (reads_back key (printed (by_text key)) is refl).again read spells meaning
    (λ n le. ap (λ o. ok_or o NoSuch) (object_again n le))

-- a key's text is a key text within the limits
pub key_text : (key : Tree ℕ) → IsKey key → (read : Tree (List ℕ)) × SpellsKey (printed (by_text key)) read
key_text key is = (reads_back key (printed (by_text key)) is refl).is_key_text

pub key_limits : (key : Tree ℕ) (read : Tree (List ℕ)) → IsKey key → SpellsKey (printed (by_text key)) read
    → IsWithinLimits read
key_limits key read is spells =
    counted read key
    (subst (λ r. CountsAs (objects_of read) (nots_of read) r) (key_resolved key read is spells)
    (resolved_counts meaning read)) is

pub key_again : (key : Tree ℕ) → IsKey key → number_key_in (printed (by_text key)) ≡ Some key
unfolding number_key_in
key_again key is =
    let text : List ℕ = printed (by_text key) in
    let read = key_text key is in
    ap (λ (o : Option (Tree (List ℕ))). o >>= (λ k. without_miss (resolved meaning k)))
    ((key_law text read.0).1 (read.1, key_limits key read.0 is read.1))
    ∙ ap without_miss (key_resolved key read.0 is read.1)

-- ---- speech

pub speech_again : (text : List ℕ) → is_speech text ≡ true → speech_in text ≡ Some text
unfolding speech_in
speech_again text h = ap (λ b. cond b (Some text) None) h

pub plain_speech : (text : List ℕ) → is_speech text ≡ true → list_all plain text ≡ true
plain_speech text h =
    let some : Bool = not (eqb (length text) 0) in
    let few : Bool = not (ltb MOST_SPEECH (length text)) in
    (and_parts (some && few) (is_printable text) (and_parts (some && few && is_printable text) (is_trimmed text) h).0).1
