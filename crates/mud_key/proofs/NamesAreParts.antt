-- A text is a names text exactly if its parts are the names of an object, and these are its names.
use Rattle.std.proofs.Common.{◌≡◌, ◌≢◌, ℕ, zero, suc, ◌+◌, ◌<◌, Bool, true, false, List, [], ◌∷◌, ◌++◌, length, map}
use Rattle.std.proofs.Common.{refl, sym, ◌∙◌, ap, subst, replicate, append_assoc, arith}
use Rattle.std.specs.Prelude.{nat_eq, reverse, if◌then◌else◌}
use Rattle.std.specs.List.{All, slice_split, join_with_byte}
use Rattle.std.proofs.lemmas.List.{reverse-append, reverse-reverse, replicate_more}
use Rattle.std.proofs.lemmas.List.Elements.{All-append, All-head, All-tail, All-replicate, All-weaker}
use Rattle.std.proofs.lemmas.List.Splits.{slice_split_none, slice_split_at, join_with_byte-slice_split}
use Rattle.std.proofs.lemmas.Bool.{eqb-true}
use Rattle.std.proofs.lemmas.Bool.Decides.{nat_tests}
use Rattle.mud_key.specs.declared.codes.TheConstants.{SPACE, COMMA}
use Rattle.mud_key.specs.Name.{IsNameByte, IsName}
use Rattle.mud_key.specs.Names.{AreNames}
use Rattle.mud_key.specs.inner.NamesTexts.{SpellsName, SpellsNames, IsNamesText, one, more}
use Rattle.mud_key.specs.inner.NamesTexts.{without_outer_spaces}
use Rattle.mud_key.specs.Commas.{without_leading_spaces, parts_of}
use Rattle.mud_key.proofs.Spaces.{none_in_front}

-- ---- trimming a name with spaces around it

reverse-spaces : (n : ℕ) → reverse {A = ℕ} (replicate n SPACE) ≡ replicate n SPACE
reverse-spaces zero = refl
reverse-spaces (suc n) =
    reverse-append (SPACE ∷ []) (replicate n SPACE) ∙ ap (λ z. z ++ SPACE ∷ []) (reverse-spaces n)
    ∙ replicate_more n SPACE
    ∙ (let next : n + 1 ≡ suc n = omega arith in ap (λ k. replicate k SPACE) next)

without-spaces : (n : ℕ) (text : List ℕ)
    → without_leading_spaces (replicate n SPACE ++ text) ≡ without_leading_spaces text
without-spaces zero text = refl
without-spaces (suc n) text = without-spaces n text

keeps_first : (name rest : List ℕ) (b : ℕ) (behind : List ℕ) → name ≡ b ∷ rest → b ≢ SPACE
    → without_leading_spaces (name ++ behind) ≡ name ++ behind
keeps_first name rest b behind e n =
    none_in_front (name ++ behind)
    (λ others f. n (let g : b ∷ (rest ++ behind) ≡ SPACE ∷ others = ap (λ z. z ++ behind) (sym e) ∙ f in cc))

keeps_last : (name front : List ℕ) (b : ℕ) → name ≡ front ++ b ∷ [] → b ≢ SPACE
    → without_leading_spaces (reverse name) ≡ reverse name
keeps_last name front b e n =
    none_in_front (reverse name)
    (λ others f.
    n (let g : b ∷ reverse front ≡ SPACE ∷ others = sym (reverse-append front (b ∷ [])) ∙ ap reverse (sym e) ∙ f in cc))

pub name_without_spaces : (text name : List ℕ) → SpellsName text name → without_outer_spaces text ≡ name
name_without_spaces text name h =
    let (first, rest, is, no_space, no_sharp) = h.is_name.text.first in
    let (front, last, ends, no_end) = h.is_name.text.last in
    let spaces : List ℕ = replicate h.behind SPACE in
    ap (λ z. reverse (without_leading_spaces (reverse z)))
    (ap without_leading_spaces (h.spaces ∙ append_assoc (replicate h.before SPACE) name spaces)
    ∙ without-spaces h.before (name ++ spaces) ∙ keeps_first name rest first spaces is no_space)
    ∙ ap (λ z. reverse (without_leading_spaces z))
    (reverse-append name spaces ∙ ap (λ z. z ++ reverse name) (reverse-spaces h.behind))
    ∙ ap reverse (without-spaces h.behind (reverse name) ∙ keeps_last name front last ends no_end)
    ∙ reverse-reverse name

-- ---- a name contains no comma

abbrev IsNoComma : ℕ → Type 0
IsNoComma b = nat_eq b COMMA ≡ false

no_comma : (text name : List ℕ) → SpellsName text name → All IsNoComma text
no_comma text name h =
    let in_name : All IsNoComma name =
    All-weaker IsNameByte IsNoComma
    (λ b byte. let n : b ≢ COMMA = byte.plain.1.1.0 in grind (arith, nat_tests)) name h.is_name.text.bytes in
    subst (λ z. All IsNoComma z) (sym h.spaces)
    (All-append IsNoComma (replicate h.before SPACE ++ name) (replicate h.behind SPACE)
    (All-append IsNoComma (replicate h.before SPACE) name (All-replicate IsNoComma h.before SPACE refl) in_name)
    (All-replicate IsNoComma h.behind SPACE refl))

-- ---- the law

spelled_parts : {text : List ℕ} {names : List (List ℕ)} → SpellsNames text names → names ≡ parts_of text
spelled_parts (one {x = x} {n = n} h) =
    sym (ap (λ z. map without_outer_spaces z) (slice_split_none (λ b. nat_eq b COMMA) x (no_comma x n h))
    ∙ ap (λ z. z ∷ []) (name_without_spaces x n h))
spelled_parts (more {x = x} {n = n} {y = y} {ns = ns} h s) =
    sym (ap (λ z. map without_outer_spaces z)
    (ap (slice_split (λ b. nat_eq b COMMA)) (append_assoc x (COMMA ∷ []) y)
    ∙ slice_split_at (λ b. nat_eq b COMMA) x COMMA y (no_comma x n h) refl)
    ∙ ap (λ z. z ∷ parts_of y) (name_without_spaces x n h)
    ∙ ap (λ z. n ∷ z) (sym (spelled_parts s)))

-- the names of a names text are its parts
pub names_are_parts : (text : List ℕ) (names : List (List ℕ)) → IsNamesText text names → names ≡ parts_of text
names_are_parts text names h = spelled_parts h.spells

space_or_first : (b : ℕ) (text : List ℕ) (t : Bool) → nat_eq b SPACE ≡ t
    → ((n : ℕ) × (text ≡ replicate n SPACE ++ without_leading_spaces text))
    → (n : ℕ) × (b ∷ text ≡ replicate n SPACE ++ (if t then without_leading_spaces text else b ∷ text))
space_or_first b text true e (n, h) = (suc n, ap (λ z. z ∷ text) (eqb-true b SPACE e) ∙ ap (λ z. SPACE ∷ z) h)
space_or_first b text false e h = (0, refl)

leading_spaces : (text : List ℕ) → (n : ℕ) × (text ≡ replicate n SPACE ++ without_leading_spaces text)
leading_spaces [] = (0, refl)
leading_spaces (b ∷ text) = space_or_first b text (nat_eq b SPACE) refl (leading_spaces text)

spells_part : (text : List ℕ) → IsName (without_outer_spaces text) → SpellsName text (without_outer_spaces text)
spells_part text is =
    let (before, front) = leading_spaces text in
    let (behind, back) = leading_spaces (reverse (without_leading_spaces text)) in
    record {
      before = before;
      behind = behind;
      spaces = front
          ∙ ap (λ z. replicate before SPACE ++ z)
          (sym (reverse-reverse (without_leading_spaces text)) ∙ ap reverse back
          ∙ reverse-append (replicate behind SPACE) (without_leading_spaces (reverse (without_leading_spaces text)))
          ∙ ap (λ z. without_outer_spaces text ++ z) (reverse-spaces behind))
          ∙ sym (append_assoc (replicate before SPACE) (without_outer_spaces text) (replicate behind SPACE));
      is_name = is;
    }

spells_parts : (stretches : List (List ℕ)) → 0 < length (map without_outer_spaces stretches)
    → All IsName (map without_outer_spaces stretches)
    → SpellsNames (join_with_byte COMMA stretches) (map without_outer_spaces stretches)
spells_parts [] some each = absurd (omega (arith, some))
spells_parts (x ∷ []) some each = one (spells_part x (All-head IsName (without_outer_spaces x) [] each))
spells_parts (x ∷ y ∷ rest) some each =
    subst (λ z. SpellsNames z (map without_outer_spaces (x ∷ y ∷ rest)))
    (append_assoc x (COMMA ∷ []) (join_with_byte COMMA (y ∷ rest)))
    (more (spells_part x (All-head IsName (without_outer_spaces x) (map without_outer_spaces (y ∷ rest)) each))
    (spells_parts (y ∷ rest) (omega arith)
    (All-tail IsName (without_outer_spaces x) (map without_outer_spaces (y ∷ rest)) each)))

-- if the parts of a text are names of an object, the text is a names text of these names
pub parts_are_names : (text : List ℕ) → AreNames (parts_of text) → IsNamesText text (parts_of text)
parts_are_names text h = record {
  spells = subst (λ z. SpellsNames z (parts_of text)) (join_with_byte-slice_split COMMA text)
      (spells_parts (slice_split (λ b. nat_eq b COMMA) text) h.some h.each);
  few = h.few;
}
