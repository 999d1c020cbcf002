-- The reader of names accepts each names text.
use Rattle.std.proofs.Common.{◌≡◌, ◌≢◌, ℕ, zero, suc, ◌+◌, ◌<◌, ◌≤◌, Bool, true, false, Option, Some, None, List, []}
use Rattle.std.proofs.Common.{◌∷◌, ◌++◌, length, take, drop, get_or, refl, sym, ◌∙◌, ap, subst, replicate, append_assoc}
use Rattle.std.proofs.Common.{length-append, arith}
use Rattle.std.specs.Prelude.{nat_eq, nat_lt, if◌then◌else◌}
use Rattle.std.specs.List.{All}
use Rattle.std.proofs.lemmas.List.{append-nil, take_more, take_all, take-append-drop}
use Rattle.std.proofs.lemmas.Bool.{eqb-true, lt-ltb}
use Rattle.std.proofs.lemmas.Bool.Decides.{nat_tests}
use Rattle.std.proofs.lemmas.List.Elements.{All-nil, All-cons, All-head, All-tail}
use Rattle.mud_key.specs.declared.codes.TheConstants.{SPACE, SHARP, COMMA}
use Rattle.mud_key.specs.declared.limits.TheConstants.{MOST_NAMES, MOST_NAME_BYTES}
use Rattle.mud_key.specs.declared.class.Class.{Class}
use Rattle.mud_key.specs.declared.class.Class.TheVariants.{Space, Digit, Letter, Sharp, Bang, Question, Open, Close}
use Rattle.mud_key.specs.declared.class.Class.TheVariants.{Ampersand, Bar, Foreign}
use Rattle.mud_key.specs.inner.Class.{class_of}
use Rattle.mud_key.specs.Name.{IsNameByte, IsName, HasNoTwoSpaces}
use Rattle.mud_key.specs.Names.{AreNames}
use Rattle.mud_key.specs.inner.NamesTexts.{SpellsName, SpellsNames, IsNamesText, IsNoNamesText, one, more}
use Rattle.mud_key.specs.inner.NameReader.{Stand, space_step, letter_step, name_step, name_next, name_run, name_start}
use Rattle.mud_key.specs.inner.NameReader.{names_at_end}
use Rattle.mud_key.proofs.Classes.{Means, class_means}
use Rattle.mud_key.proofs.NamesSound.{name_run-none}

abbrev EndsWell : List ℕ → Type 0
EndsWell [] = Unit {0}
EndsWell (b ∷ []) = b ≢ SPACE
EndsWell (b ∷ c ∷ r) = EndsWell (c ∷ r)

ends_well : (front : List ℕ) (b : ℕ) → b ≢ SPACE → EndsWell (front ++ b ∷ [])
ends_well [] b n = n
ends_well (a ∷ []) b n = n
ends_well (a ∷ c ∷ front) b n = ends_well (c ∷ front) b n

ends_tail : (b : ℕ) (q : List ℕ) → EndsWell (b ∷ q) → EndsWell q
ends_tail b [] h = tt
ends_tail b (c ∷ q) h = h

spaced_tail : (b : ℕ) (q : List ℕ) → HasNoTwoSpaces (b ∷ q) → HasNoTwoSpaces q
spaced_tail b [] h = tt
spaced_tail b (c ∷ q) h = h.1

name_run-append : (s : Option Stand) (x y : List ℕ) → name_run s (x ++ y) ≡ name_run (name_run s x) y
name_run-append s [] y = refl
name_run-append s (b ∷ x) y = name_run-append (name_next s b) x y

letter_class : (s : Stand) (b : ℕ) (k : Class) → Means k b → IsNameByte b → b ≢ SPACE
    → name_step s k b ≡ letter_step s b
letter_class s b Space m byte n = absurd (n m)
letter_class s b Sharp m byte n = refl
letter_class s b Digit m byte n = refl
letter_class s b Letter m byte n = refl
letter_class s b Foreign m byte n = absurd (m.0 byte)
letter_class s b Bang m byte n = absurd (byte.plain.1.1.1.1.1.0 m)
letter_class s b Question m byte n = absurd (byte.plain.1.1.1.1.1.1.0 m)
letter_class s b Open m byte n = absurd (byte.plain.1.1.1.1.1.1.1.0 m)
letter_class s b Close m byte n = absurd (byte.plain.1.1.1.1.1.1.1.1.0 m)
letter_class s b Ampersand m byte n = absurd (byte.plain.1.1.1.1.0 m)
letter_class s b Bar m byte n = absurd (byte.plain.1.1.1.0 m)

nonzero : (n : ℕ) → 0 < n → nat_eq n 0 ≡ false
nonzero n l = grind (arith, nat_tests)

not_sharp : (b : ℕ) → b ≢ SHARP → nat_eq b SHARP ≡ false
not_sharp b n = grind (arith, nat_tests)

third : {A : Type 0} (t u v : Bool) (w x y z : A) → t ≡ false → u ≡ true → v ≡ true
    → (if t then w else if u then (if v then x else y) else z) ≡ x
third false true true w x y z e f g = refl
third true u v w x y z e f g = absurd (cc)
third false false v w x y z e f g = absurd (cc)
third false true false w x y z e f g = absurd (cc)

second : {A : Type 0} (t u : Bool) (w x y : A) → t ≡ false → u ≡ true → (if t then w else if u then x else y) ≡ x
second false true w x y e f = refl
second true u w x y e f = absurd (cc)
second false false w x y e f = absurd (cc)

otherwise : {A : Type 0} (t : Bool) (x y : A) → t ≡ false → (if t then x else y) ≡ y
otherwise false x y e = refl
otherwise true x y e = absurd (cc)

longer_step : (list : List (List ℕ)) (t : List ℕ) (n b : ℕ) → IsNameByte b → b ≢ SPACE → 0 < length t → n < 2
    → length t + n < MOST_NAME_BYTES
    → name_next (Some (record { list = list; text = t; spaces = n })) b
    ≡ Some (record { list = list; text = t ++ replicate n SPACE ++ b ∷ []; spaces = 0 })
longer_step list t n b byte s some small room =
    letter_class (record { list = list; text = t; spaces = n }) b (class_of b) (class_means b) byte s
    ∙ third (nat_eq (length t) 0) (nat_lt n 2) (nat_lt (length t + n) MOST_NAME_BYTES) _ _ _ _ (nonzero (length t) some)
    (lt-ltb n 2 small) (lt-ltb (length t + n) MOST_NAME_BYTES room)

abbrev Named : List (List ℕ) → List ℕ → ℕ → Option Stand
Named list t n = Some (record { list = list; text = t; spaces = n })

-- a space in a name
space_step_once : (list : List (List ℕ)) (t : List ℕ) (b : ℕ) → 0 < length t → b ≡ SPACE
    → name_next (Named list t 0) b ≡ Named list t 1
space_step_once list t b some e =
    rw e (ap (λ (z : Stand). Some z)
    (second (nat_eq (length t) 0) true (record { list = list; text = t; spaces = 0 })
    (record { list = list; text = t; spaces = 1 }) (record { list = list; text = t; spaces = 0 })
    (nonzero (length t) some) refl))

is_space : (b : ℕ) → nat_eq b SPACE ≡ false → b ≢ SPACE
is_space b e = grind (arith, nat_tests)

one_letter : (list : List (List ℕ)) (t : List ℕ) (b : ℕ) (r : List ℕ) → 0 < length t → IsNameByte b → b ≢ SPACE
    → length t + 1 ≤ MOST_NAME_BYTES
    → ((u : List ℕ) → 0 < length u → length u ≡ length t + 1 → name_run (Named list u 0) r ≡ Named list (u ++ r) 0)
    → name_run (Named list t 0) (b ∷ r) ≡ Named list (t ++ b ∷ r) 0
one_letter list t b r some byte n room rest =
    ap (λ z. name_run z r) (longer_step list t 0 b byte n some (omega arith) (omega (arith, room)))
    ∙ rest (t ++ [] ++ b ∷ []) (omega (arith, l)) l
    ∙ ap (λ z. Named list z 0) (append_assoc (t ++ []) (b ∷ []) r ∙ ap (λ z. z ++ b ∷ r) (append-nil t))
  where
    l : length (t ++ [] ++ b ∷ []) ≡ length t + 1
    l = omega (arith, length-append (t ++ []) (b ∷ []), length-append t [])

space_letter : (list : List (List ℕ)) (t : List ℕ) (b d : ℕ) (r : List ℕ) → 0 < length t → b ≡ SPACE → IsNameByte d
    → d ≢ SPACE → length t + 2 ≤ MOST_NAME_BYTES
    → ((u : List ℕ) → 0 < length u → length u ≡ length t + 2 → name_run (Named list u 0) r ≡ Named list (u ++ r) 0)
    → name_run (Named list t 0) (b ∷ d ∷ r) ≡ Named list (t ++ b ∷ d ∷ r) 0
space_letter list t b d r some e byte n room rest =
    ap (λ z. name_run (name_next z d) r) (space_step_once list t b some e)
    ∙ ap (λ z. name_run z r) (longer_step list t 1 d byte n some (omega arith) (omega (arith, room)))
    ∙ rest (t ++ SPACE ∷ [] ++ d ∷ []) (omega (arith, l)) l
    ∙ ap (λ z. Named list z 0)
    (append_assoc (t ++ SPACE ∷ []) (d ∷ []) r ∙ append_assoc t (SPACE ∷ []) (d ∷ r) ∙ ap (λ x. t ++ x ∷ d ∷ r) (sym e))
  where
    l : length (t ++ SPACE ∷ [] ++ d ∷ []) ≡ length t + 2
    l = omega (arith, length-append (t ++ SPACE ∷ []) (d ∷ []), length-append t (SPACE ∷ []))

two_letters : (list : List (List ℕ)) (t : List ℕ) (b d : ℕ) (r : List ℕ) (v : Bool) → nat_eq b SPACE ≡ v → 0 < length t
    → All IsNameByte (b ∷ d ∷ r) → (b ≡ SPACE → d ≢ SPACE) → length t + length (b ∷ d ∷ r) ≤ MOST_NAME_BYTES
    → ((u : List ℕ) → 0 < length u → length u + length (d ∷ r) ≤ MOST_NAME_BYTES
    → name_run (Named list u 0) (d ∷ r) ≡ Named list (u ++ d ∷ r) 0)
    → ((u : List ℕ) → 0 < length u → length u + length r ≤ MOST_NAME_BYTES
    → name_run (Named list u 0) r ≡ Named list (u ++ r) 0)
    → name_run (Named list t 0) (b ∷ d ∷ r) ≡ Named list (t ++ b ∷ d ∷ r) 0
two_letters list t b d r false e some each spaced room plain over =
    one_letter list t b (d ∷ r) some (All-head IsNameByte b (d ∷ r) each) (is_space b e) (omega (arith, room))
    (λ u s l. plain u s (omega (arith, room, l)))
two_letters list t b d r true e some each spaced room plain over =
    let is : b ≡ SPACE = eqb-true b SPACE e in
    space_letter list t b d r some is (All-head IsNameByte d r (All-tail IsNameByte b (d ∷ r) each)) (spaced is)
    (omega (arith, room)) (λ u s l. over u s (omega (arith, room, l)))

-- the rest of a name
letters : (list : List (List ℕ)) (t q : List ℕ) → 0 < length t → All IsNameByte q → HasNoTwoSpaces q → EndsWell q
    → length t + length q ≤ MOST_NAME_BYTES → name_run (Named list t 0) q ≡ Named list (t ++ q) 0
letters list t [] some each spaced ends room = ap (λ z. Named list z 0) (sym (append-nil t))
letters list t (b ∷ []) some each spaced ends room =
    one_letter list t b [] some (All-head IsNameByte b [] each) ends (omega (arith, room))
    (λ u s l. ap (λ z. Named list z 0) (sym (append-nil u)))
letters list t (b ∷ d ∷ r) some each spaced ends room =
    two_letters list t b d r (nat_eq b SPACE) refl some each spaced.0 room
    (λ u s l. letters list u (d ∷ r) s (All-tail IsNameByte b (d ∷ r) each) spaced.1 ends l)
    (λ u s l.
    letters list u r s (All-tail IsNameByte d r (All-tail IsNameByte b (d ∷ r) each)) (spaced_tail d r spaced.1)
    (ends_tail d r ends) l)

name_ends : (name : List ℕ) → ((front : List ℕ) × (b : ℕ) × (name ≡ front ++ b ∷ []) × (b ≢ SPACE)) → EndsWell name
name_ends name (front, b, e, n) = subst (λ z. EndsWell z) (sym e) (ends_well front b n)

name_some : (name : List ℕ) → IsName name → 0 < length name
name_some name h = go h.text.first
  where
    go : ((b : ℕ) × (rest : List ℕ) × (name ≡ b ∷ rest) × (b ≢ SPACE) × (b ≢ SHARP)) → 0 < length name
    go (b, rest, e, n, m) = omega (arith, ap length e)

-- a whole name
takes_name : (list : List (List ℕ)) (name : List ℕ) → IsName name → name_run (Named list [] 0) name ≡ Named list name 0
takes_name list name h = go h.text.first
  where
    go : ((b : ℕ) × (rest : List ℕ) × (name ≡ b ∷ rest) × (b ≢ SPACE) × (b ≢ SHARP))
        → name_run (Named list [] 0) name ≡ Named list name 0
    go (b, rest, e, n, m) =
        let each : All IsNameByte (b ∷ rest) = subst (λ z. All IsNameByte z) e h.text.bytes in
        ap (λ z. name_run (Named list [] 0) z) e
        ∙ ap (λ z. name_run z rest)
        (letter_class (record { list = list; text = []; spaces = 0 }) b (class_of b) (class_means b)
        (All-head IsNameByte b rest each) n ∙ otherwise (nat_eq b SHARP) None (Named list (b ∷ []) 0) (not_sharp b m))
        ∙ letters list (b ∷ []) rest (omega arith) (All-tail IsNameByte b rest each)
        (spaced_tail b rest (subst (λ z. HasNoTwoSpaces z) e h.spaced))
        (ends_tail b rest (subst (λ z. EndsWell z) e (name_ends name h.text.last)))
        (omega (arith, h.short, ap length e))
        ∙ ap (λ z. Named list z 0) (sym e)

spaces_before : (list : List (List ℕ)) (k : ℕ) → name_run (Named list [] 0) (replicate k SPACE) ≡ Named list [] 0
spaces_before list zero = refl
spaces_before list (suc k) = spaces_before list k

abbrev StandsBehind : List (List ℕ) → List ℕ → Option Stand → Type 0
StandsBehind list t s = (n : ℕ) × (s ≡ Named list t n)

space_again : (list : List (List ℕ)) (t : List ℕ) (n : ℕ) (v : Bool) → nat_eq (length t) 0 ≡ false → nat_lt n 2 ≡ v
    → StandsBehind list t (Some (space_step (record { list = list; text = t; spaces = n })))
space_again list t n true e f =
    (n + 1, ap (λ (z : Stand). Some z) (second (nat_eq (length t) 0) (nat_lt n 2) _ _ _ e f))
space_again list t n false e f =
    (n, ap (λ (z : Stand). Some z) (otherwise (nat_eq (length t) 0) _ _ e ∙ otherwise (nat_lt n 2) _ _ f))

spaces_behind : (list : List (List ℕ)) (t : List ℕ) (n m : ℕ) → 0 < length t
    → StandsBehind list t (name_run (Named list t n) (replicate m SPACE))
spaces_behind list t n zero some = (n, refl)
spaces_behind list t n (suc m) some =
    on m (space_again list t n (nat_lt n 2) (nonzero (length t) some) refl) (λ i. spaces_behind list t i m some)
  where
    on : (m : ℕ) → StandsBehind list t (Some (space_step (record { list = list; text = t; spaces = n })))
        → ((i : ℕ) → StandsBehind list t (name_run (Named list t i) (replicate m SPACE)))
        → StandsBehind list t (name_run (Named list t n) (replicate (suc m) SPACE))
    on m (i, e) rest = subst (λ s. StandsBehind list t (name_run s (replicate m SPACE))) (sym e) (rest i)

-- a name with spaces around it
takes_spelled : (list : List (List ℕ)) (x name : List ℕ) → SpellsName x name
    → StandsBehind list name (name_run (Named list [] 0) x)
takes_spelled list x name h =
    subst (λ s. StandsBehind list name s) (sym (all h.before h.behind h.spaces))
    (spaces_behind list name 0 h.behind (name_some name h.is_name))
  where
    all : (k m : ℕ) → x ≡ replicate k SPACE ++ name ++ replicate m SPACE
        → name_run (Named list [] 0) x ≡ name_run (Named list name 0) (replicate m SPACE)
    all k m e = ap (λ z. name_run (Named list [] 0) z) e
        ∙ name_run-append (Named list [] 0) (replicate k SPACE ++ name) (replicate m SPACE)
        ∙ ap (λ z. name_run z (replicate m SPACE))
        (name_run-append (Named list [] 0) (replicate k SPACE) name ∙ ap (λ z. name_run z name) (spaces_before list k)
        ∙ takes_name list name h.is_name)

abbrev Takes : List (List ℕ) → Option Stand → Type 0
Takes names s = (e : Stand) × (s ≡ Some e) × (names_at_end e ≡ Some names)

names_some : {x : List ℕ} {ns : List (List ℕ)} → SpellsNames x ns → 0 < length ns
names_some (one h) = omega arith
names_some (more h s) = omega arith

takes_one : (list : List (List ℕ)) (x name : List ℕ) → SpellsName x name
    → Takes (list ++ name ∷ []) (name_run (Named list [] 0) x)
takes_one list x name h = go (takes_spelled list x name h)
  where
    go : StandsBehind list name (name_run (Named list [] 0) x)
        → Takes (list ++ name ∷ []) (name_run (Named list [] 0) x)
    go (n, e) = (
      record { list = list; text = name; spaces = n },
      e,
      otherwise (nat_eq (length name) 0) _ _
          (nonzero (length name) (name_some name h.is_name)),
    )

takes_comma : (list : List (List ℕ)) (x name : List ℕ) → SpellsName x name → length list < 3
    → name_run (Named list [] 0) (x ++ COMMA ∷ []) ≡ Named (list ++ name ∷ []) [] 0
takes_comma list x name h l = go (takes_spelled list x name h)
  where
    go : StandsBehind list name (name_run (Named list [] 0) x)
        → name_run (Named list [] 0) (x ++ COMMA ∷ []) ≡ Named (list ++ name ∷ []) [] 0
    go (n, e) = name_run-append (Named list [] 0) x (COMMA ∷ []) ∙ ap (λ z. name_next z COMMA) e
        ∙ second (nat_eq (length name) 0) (nat_lt (length list) 3) _ _ _
        (nonzero (length name) (name_some name h.is_name)) (lt-ltb (length list) 3 l)

takes_names : {x : List ℕ} {ns : List (List ℕ)} → SpellsNames x ns → (list : List (List ℕ))
    → length list + length ns ≤ MOST_NAMES → Takes (list ++ ns) (name_run (Named list [] 0) x)
takes_names (one {x = x} {n = n} h) list room = takes_one list x n h
takes_names (more {x = x} {n = n} {y = y} {ns = ns} h s) list room =
    subst (λ z. Takes (list ++ n ∷ ns) z)
    (sym (name_run-append (Named list [] 0) (x ++ COMMA ∷ []) y
    ∙ ap (λ z. name_run z y) (takes_comma list x n h (omega (arith, room, names_some s)))))
    (subst (λ z. Takes z (name_run (Named (list ++ n ∷ []) [] 0) y)) (append_assoc list (n ∷ []) ns)
    (takes_names s (list ++ n ∷ []) (omega (arith, room, length-append list (n ∷ [])))))

-- a names text is accepted to its end
pub names_taken : (text : List ℕ) (names : List (List ℕ)) → IsNamesText text names
    → Takes names (name_run (Some name_start) text)
names_taken text names h = takes_names h.spells [] (omega (arith, h.few))

-- a text with a byte that the reader rejects is not a names text
pub refused_names : (text : List ℕ) (i d : ℕ) (s : Stand) → i < length text
    → name_run (Some name_start) (take i text) ≡ Some s → name_next (Some s) (get_or text i d) ≡ None
    → IsNoNamesText text
refused_names text i d s l e f names h = go (names_taken text names h)
  where
    never : name_run (Some name_start) text ≡ None
    never = ap (λ z. name_run (Some name_start) z) (sym (take-append-drop (i + 1) text))
        ∙ name_run-append (Some name_start) (take (i + 1) text) (drop (i + 1) text)
        ∙ ap (λ z. name_run z (drop (i + 1) text))
        (ap (λ z. name_run (Some name_start) z) (take_more text i d l)
        ∙ name_run-append (Some name_start) (take i text) (get_or text i d ∷ [])
        ∙ ap (λ z. name_next z (get_or text i d)) e ∙ f)
        ∙ name_run-none (drop (i + 1) text)

    go : Takes names (name_run (Some name_start) text) → ⊥
    go (t, same, done) = absurd (let both : ◌≡◌ {A = Option Stand} None (Some t) = sym never ∙ same in cc)

-- a text that does not end with a name is not a names text
pub unsettled_names : (text : List ℕ) (s : Stand) → name_run (Some name_start) text ≡ Some s → names_at_end s ≡ None
    → IsNoNamesText text
unsettled_names text s e f names h = go (names_taken text names h)
  where
    go : Takes names (name_run (Some name_start) text) → ⊥
    go (t, same, done) =
        absurd (let both : ◌≡◌ {A = Option Stand} (Some s) (Some t) = sym e ∙ same in let eq : s ≡ t = cc in
        let v : ◌≡◌ {A = Option (List (List ℕ))} None (Some names) = sym f ∙ ap names_at_end eq ∙ done in cc)

-- one more byte
pub name_run_more : (text : List ℕ) (i d : ℕ) (s : Stand) (t : Option Stand) → i < length text
    → name_run (Some name_start) (take i text) ≡ Some s → t ≡ name_next (Some s) (get_or text i d)
    → name_run (Some name_start) (take (i + 1) text) ≡ t
name_run_more text i d s t l e h =
    ap (λ p. name_run (Some name_start) p) (take_more text i d l)
    ∙ name_run-append (Some name_start) (take i text) (get_or text i d ∷ []) ∙ ap (λ z. name_next z (get_or text i d)) e
    ∙ sym h

pub name_run_end : (text : List ℕ) (i : ℕ) (s : Option Stand) → length text ≤ i
    → name_run (Some name_start) (take i text) ≡ s → name_run (Some name_start) text ≡ s
name_run_end text i s l e = ap (λ p. name_run (Some name_start) p) (sym (take_all i text l)) ∙ e

pub each_name : {x : List ℕ} {ns : List (List ℕ)} → SpellsNames x ns → All IsName ns
each_name (one {n = n} h) = All-cons IsName n [] h.is_name (All-nil IsName)
each_name (more {n = n} {ns = ns} h s) = All-cons IsName n ns h.is_name (each_name s)

pub are_names : (text : List ℕ) (names : List (List ℕ)) → IsNamesText text names → AreNames names
are_names text names h = record { some = names_some h.spells; few = h.few; each = each_name h.spells }

-- a text is the names text of at most one list
pub one_list : (text : List ℕ) (names others : List (List ℕ)) → IsNamesText text names → IsNamesText text others
    → names ≡ others
one_list text names others h i = go (names_taken text names h) (names_taken text others i)
  where
    go : Takes names (name_run (Some name_start) text) → Takes others (name_run (Some name_start) text) → names ≡ others
    go (s, e, f) (t, g, k) = let both : ◌≡◌ {A = Option Stand} (Some s) (Some t) = sym e ∙ g in let eq : s ≡ t = cc in
        let v : Some names ≡ Some others = sym f ∙ ap names_at_end eq ∙ k in cc
