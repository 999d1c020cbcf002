-- The notes of a pass, before and after one of them changes.
use Rattle.std.proofs.Common.{◌≡◌, ℕ, zero, suc, ◌+◌, ◌-◌, ◌≤◌, ◌<◌, List, [], ◌∷◌, ◌++◌, length, map, get_or, set}
use Rattle.std.proofs.Common.{take, Option, Some, None, slice_get, Bor, ◌⊎◌, length-append, add-one, refl, sym, ap, ◌∙◌}
use Rattle.std.proofs.Common.{subst, arith}
use Rattle.std.specs.declared.alloc.Global.{Global}
use Rattle.once_cell.specs.Once.{cell_name, Agrees}
use Rattle.once_cell.specs.declared.race.note.Note.{Note}
use mathlib.Core.List.{IsPrefix}
use Rattle.std.specs.Prelude.{MatchOption, IfSome, Result, Ok, Err, OnErr}
use Rattle.std.specs.Option.{option_copied}
use Rattle.mud_chron.specs.Entry.{Entry}
use Rattle.std.proofs.Math.ListN.{length-set}
use Rattle.mud_row.specs.Known.{Known, Fills, entry_at, known_of, AreCounted}
use Rattle.mud_row.specs.inner.Known.{names_of, entry_first, known_front}

-- the note at a place has the name of the cell at that place
pub name_at : (cells : List (Global × ℕ)) (ns : List (Note Entry)) (i : ℕ) (c : Global × ℕ) (n : Note Entry)
    → names_of ns ≡ map cell_name cells → i < length cells → c ≡ get_or cells i c → n ≡ get_or ns i n
    → n.cell ≡ cell_name c
name_at [] ns i c n e lt ic in' = absurd (omega arith)
name_at (d ∷ cells) [] i c n e lt ic in' = absurd cc
name_at (d ∷ cells) (m ∷ ns) zero c n e lt ic in' = cc
name_at (d ∷ cells) (m ∷ ns) (suc i) c n e lt ic in' = name_at cells ns i c n (cc) (omega arith) ic in'

-- there are as many notes as cells
pub same_length : (cells : List (Global × ℕ)) (ns : List (Note Entry)) → names_of ns ≡ map cell_name cells
    → length ns ≡ length cells
same_length [] [] e = refl
same_length [] (n ∷ ns) e = absurd cc
same_length (c ∷ cells) [] e = absurd cc
same_length (c ∷ cells) (n ∷ ns) e = ap suc (same_length cells ns cc)

pub names-length : (ns : List (Note Entry)) → length (names_of ns) ≡ length ns
names-length [] = refl
names-length (n ∷ ns) = ap suc (names-length ns)

pub names_as_many : (xs ys : List (Note Entry)) → names_of xs ≡ names_of ys → length xs ≡ length ys
names_as_many xs ys same = omega (arith, ap length same, names-length xs, names-length ys)

pub names-set : (ns : List (Note Entry)) (i : ℕ) (n m : Note Entry) → n ≡ get_or ns i n → m.cell ≡ n.cell
    → names_of (set ns i m) ≡ names_of ns
names-set [] i n m at same = refl
names-set (o ∷ ns) zero n m at same = cc
names-set (o ∷ ns) (suc i) n m at same = ap (λ r. o.cell ∷ r) (names-set ns i n m at same)

-- at most as many entries are known as there are notes
pub front_bound : (k : ℕ) (ns : List (Note Entry)) → length (known_front k ns) ≤ length ns
front_bound zero ns = omega arith
front_bound (suc k) [] = omega arith
front_bound (suc k) (n ∷ ns) = first_bound n.known (known_front k ns) (length ns) (front_bound k ns)
  where
    first_bound : (o : Option Entry) (es : List Entry) (b : ℕ) → length es ≤ b → length (entry_first o es) ≤ suc b
    first_bound None es b h = omega arith
    first_bound (Some e) es b h = omega arith

-- if the first of suc k entries is counted, it is known
pub all_more : (o : Option Entry) (es : List Entry) (k : ℕ) → length (entry_first o es) ≡ suc k
    → (x : Entry) × (o ≡ Some x) × (length es ≡ k)
all_more None es k e = absurd (omega arith)
all_more (Some x) es k e = (x, refl, omega arith)

-- if as many are known as are counted, the counted notes know their entries
pub known_at : (k : ℕ) (ns : List (Note Entry)) (i : ℕ) (n : Note Entry) → length (known_front k ns) ≡ k → i < k
    → n ≡ get_or ns i n → slice_get (known_front k ns) i ≡ n.known
known_at zero ns i n e lt at = absurd (omega arith)
known_at (suc k) [] i n e lt at = absurd (omega arith)
known_at (suc k) (m ∷ ns) zero n e lt at =
    let f = all_more m.known (known_front k ns) k e in
    let P : Option Entry → Type 0 = λ o. slice_get (entry_first o (known_front k ns)) 0 ≡ n.known in
    subst P (sym f.1) (sym f.1 ∙ sym (ap (λ (r : Note Entry). r.known) at))
known_at (suc k) (m ∷ ns) (suc i) n e lt at =
    let f = all_more m.known (known_front k ns) k e in
    let P : Option Entry → Type 0 = λ o. slice_get (entry_first o (known_front k ns)) (suc i) ≡ n.known in
    subst P (sym f.1) (known_at k ns i n f.2 (omega arith) at)

-- a note past the count does not change the known entries
pub front-set_past : (k : ℕ) (ns : List (Note Entry)) (i : ℕ) (m : Note Entry) → k ≤ i
    → known_front k (set ns i m) ≡ known_front k ns
front-set_past zero ns i m le = refl
front-set_past (suc k) [] i m le = refl
front-set_past (suc k) (n ∷ ns) zero m le = absurd (omega arith)
front-set_past (suc k) (n ∷ ns) (suc i) m le = ap (entry_first n.known) (front-set_past k ns i m (omega arith))

-- a note that knows the same entry does not change the known entries
pub front-set_same : (k : ℕ) (ns : List (Note Entry)) (i : ℕ) (n m : Note Entry) → n ≡ get_or ns i n
    → m.known ≡ n.known → known_front k (set ns i m) ≡ known_front k ns
front-set_same zero ns i n m at same = refl
front-set_same (suc k) [] i n m at same = refl
front-set_same (suc k) (o ∷ ns) zero n m at same = cc
front-set_same (suc k) (o ∷ ns) (suc i) n m at same = ap (entry_first o.known) (front-set_same k ns i n m at same)

-- the next note knows an entry now
pub front-set_next : (k : ℕ) (ns : List (Note Entry)) (m : Note Entry) (e : Entry)
    → length (known_front k ns) ≡ k → k < length ns → m.known ≡ Some e
    → known_front (suc k) (set ns k m) ≡ known_front k ns ++ e ∷ []
front-set_next zero [] m e all lt is = absurd (omega arith)
front-set_next zero (n ∷ ns) m e all lt is = ap (λ o. entry_first o []) is
front-set_next (suc k) [] m e all lt is = absurd (omega arith)
front-set_next (suc k) (n ∷ ns) m e all lt is =
    let f = all_more n.known (known_front k ns) k all in
    let P : Option Entry → Type 0 =
    λ o. entry_first o (known_front (suc k) (set ns k m)) ≡ entry_first o (known_front k ns) ++ e ∷ [] in
    subst P (sym f.1) (ap (λ r. f.0 ∷ r) (front-set_next k ns m e f.2 (omega arith) is))

-- two passes with the same row and the same entries have equal models
pub known_eq : (p q : Known) → p.row ≡ q.row → p.list ≡ q.list → p ≡ q
known_eq p q r l = λ i. record { row = r i; list = l i }

-- one more note for one more cell
pub names_more : (cells : List (Global × ℕ)) (ns : List (Note Entry)) (i : ℕ) (c : Global × ℕ) (n : Note Entry)
    → names_of ns ≡ map cell_name (take i cells) → i < length cells → c ≡ get_or cells i c → n.cell ≡ cell_name c
    → names_of (ns ++ n ∷ []) ≡ map cell_name (take (suc i) cells)
names_more [] ns i c n e lt ic is = absurd (omega arith)
names_more (d ∷ cells) [] zero c n e lt ic is = cc
names_more (d ∷ cells) (m ∷ ns) zero c n e lt ic is = absurd cc
names_more (d ∷ cells) [] (suc i) c n e lt ic is = absurd cc
names_more (d ∷ cells) (m ∷ ns) (suc i) c n e lt ic is =
    let rest = names_more cells ns i c n (cc) (omega arith) ic is in cc

-- a list has an entry at each place below its length
pub stands_at : (es : List Entry) (i : ℕ) → i < length es → (x : Entry) × (slice_get es i ≡ Some x)
stands_at [] i lt = absurd (omega arith)
stands_at (e ∷ es) zero lt = (e, refl)
stands_at (e ∷ es) (suc i) lt = stands_at es i (omega arith)

-- reading a cell again, through a note that knows its entry, gives that entry
pub read_again : (o k : Option Entry) (x : Entry) (r : Option (Bor Entry)) → o ≡ Some x
    → MatchOption r ((o ≡ None) × (k ≡ None)) (λ b. (k ≡ Some b.now) × Agrees o b.now) → (option_copied r ≡ o) × (k ≡ o)
read_again None k x r e m = absurd (cc)
read_again (Some y) k x None e m = absurd (cc (m.0))
read_again (Some y) k x (Some b) e m = (ap (λ z. Some z) (sym m.1), m.0 ∙ ap (λ z. Some z) (sym m.1))

-- entry n, counted from 1, is at index n - 1
pub entry_at_place : (es : List Entry) (n : ℕ) → 0 < n → entry_at es n ≡ slice_get es (n - 1)
entry_at_place es zero h = absurd (omega arith)
entry_at_place es (suc n) h = ap (slice_get es) (omega arith)

-- two lists that agree on the first i and at i agree on the first suc i
pub take_agree : (xs ys : List Entry) (i : ℕ) → take i xs ≡ take i ys → slice_get xs i ≡ slice_get ys i
    → i < length xs → take (suc i) xs ≡ take (suc i) ys
take_agree [] ys i e g lt = absurd (omega arith)
take_agree (x ∷ xs) [] zero e g lt = absurd (cc)
take_agree (x ∷ xs) [] (suc i) e g lt = absurd (cc)
take_agree (x ∷ xs) (y ∷ ys) zero e g lt = cc
take_agree (x ∷ xs) (y ∷ ys) (suc i) e g lt = let rest = take_agree xs ys i (cc) g (omega arith) in cc

-- one list is a prefix of the other
pub prefix_of_take : (xs ys : List Entry) (i : ℕ) → take i xs ≡ take i ys → length xs ≤ i → IsPrefix xs ys
prefix_of_take [] ys i e le = (ys, refl)
prefix_of_take (x ∷ xs) ys zero e le = absurd (omega arith)
prefix_of_take (x ∷ xs) [] (suc i) e le = absurd (cc)
prefix_of_take (x ∷ xs) (y ∷ ys) (suc i) e le = let rest = prefix_of_take xs ys i (cc) (omega arith) in
    (rest.0, cc (e, rest.1))

pub prefix_self : (xs : List Entry) → IsPrefix xs xs
prefix_self [] = ([], refl)
prefix_self (x ∷ xs) = (let r = prefix_self xs in r.0, ap (λ ys. x ∷ ys) (prefix_self xs).1)

-- replacing the note at place i makes two lists of notes agree on one more place
pub take-set_agree : (xs ys : List (Note Entry)) (i : ℕ) (n : Note Entry) → take i xs ≡ take i ys → i < length xs
    → i < length ys → n ≡ get_or ys i n → take (suc i) (set xs i n) ≡ take (suc i) ys
take-set_agree [] ys i n e lx ly at = absurd (omega arith)
take-set_agree (x ∷ xs) [] i n e lx ly at = absurd (omega arith)
take-set_agree (x ∷ xs) (y ∷ ys) zero n e lx ly at = cc
take-set_agree (x ∷ xs) (y ∷ ys) (suc i) n e lx ly at =
    let rest = take-set_agree xs ys i n (cc) (omega arith) (omega arith) at in cc

-- notes that agree on the first k know the same first k entries
pub front-take : (k : ℕ) (xs ys : List (Note Entry)) → take k xs ≡ take k ys → known_front k xs ≡ known_front k ys
front-take zero xs ys e = refl
front-take (suc k) [] [] e = refl
front-take (suc k) [] (y ∷ ys) e = absurd (cc)
front-take (suc k) (x ∷ xs) [] e = absurd (cc)
front-take (suc k) (x ∷ xs) (y ∷ ys) e = let rest = front-take k xs ys (cc) in let head : x ≡ y = cc in cc

-- the name at a place, in two lists of notes with equal names
pub name_beside : (xs ys : List (Note Entry)) (i : ℕ) (x y : Note Entry) → names_of xs ≡ names_of ys
    → i < length xs → x ≡ get_or xs i x → y ≡ get_or ys i y → y.cell ≡ x.cell
name_beside [] ys i x y e lt ix iy = absurd (omega arith)
name_beside (a ∷ xs) [] i x y e lt ix iy = absurd (cc)
name_beside (a ∷ xs) (b ∷ ys) zero x y e lt ix iy = cc
name_beside (a ∷ xs) (b ∷ ys) (suc i) x y e lt ix iy = name_beside xs ys i x y (cc) (omega arith) ix iy

-- two notes that know their entries know equal ones
pub notes_agree : (o k : Option Entry) (x y : Entry) → o ≡ Some x → k ≡ Some y → IfSome k (Agrees o) → o ≡ k
notes_agree None k x y eo ek a = absurd (cc)
notes_agree (Some v) None x y eo ek a = absurd (cc)
notes_agree (Some v) (Some w) x y eo ek a = cc

-- replacing a note by itself changes nothing
pub set_same : {X : Type 0} (xs : List X) (i : ℕ) (x y : X) → x ≡ get_or xs i x → y ≡ x → set xs i y ≡ xs
set_same [] i x y at same = refl
set_same (z ∷ xs) zero x y at same = cc
set_same (z ∷ xs) (suc i) x y at same = ap (λ r. z ∷ r) (set_same xs i x y at same)

-- the notes of a pass beside the cells of its row
pub record IsBeside (cells : List (Global × ℕ)) (ns : List (Note Entry)) (k : ℕ) (p : Known)
    (row : List ℕ) : Type 0 where
  pub names : names_of ns ≡ map cell_name cells
  pub notes : length ns ≡ length cells
  pub row_length : length row ≡ length cells
  pub within : k ≤ length cells
  pub known : length p.list ≡ k

pub beside : (cells : List (Global × ℕ)) (ns : List (Note Entry)) (k : ℕ) (p : Known) (row : List ℕ)
    → known_of k ns ≡ p → p.row ≡ row → map cell_name cells ≡ row → AreCounted k ns → IsBeside cells ns k p row
beside cells ns k p row view is self counted =
    let names : names_of ns ≡ map cell_name cells = ap (λ q. q.row) view ∙ (is ∙ sym self) in
    let notes : length ns ≡ length cells = same_length cells ns names in record {
      names = names;
      notes = notes;
      row_length = omega (arith, ap length (is ∙ refl), ap length (ap (λ q. q.row) view), names-length ns);
      within = omega (arith, front_bound k ns, counted.1);
      known = omega (arith, ap (λ q. length q.list) view, counted.1);
    }

-- a note past the count may learn an entry without changing the known entries
pub kept-past : (k : ℕ) (ns : List (Note Entry)) (n m : Note Entry) → n ≡ get_or ns k n → m.cell ≡ n.cell
    → known_of k (set ns k m) ≡ known_of k ns
kept-past k ns n m at cell = known_eq _ _ (names-set ns k n m at cell) (front-set_past k ns k m (omega arith))

-- a note that knows the same entry as before does not change the known entries
pub kept-same : (k : ℕ) (ns : List (Note Entry)) (i : ℕ) (n m : Note Entry) → n ≡ get_or ns i n → m.cell ≡ n.cell
    → m.known ≡ n.known → known_of k (set ns i m) ≡ known_of k ns
kept-same k ns i n m at cell known = known_eq _ _ (names-set ns i n m at cell) (front-set_same k ns i n m at known)

pub counted-kept : (k : ℕ) (ns : List (Note Entry)) (i : ℕ) (m : Note Entry) → AreCounted k ns
    → known_of k (set ns i m) ≡ known_of k ns → AreCounted k (set ns i m)
counted-kept k ns i m counted same =
    (omega (arith, length-set ns i m, counted.0), ap (λ q. length q.list) same ∙ counted.1)

-- one more note is counted, and it knows an entry
pub front-more : (k : ℕ) (ns : List (Note Entry)) (m : Note Entry) (e : Entry) → AreCounted k ns
    → k < length ns → m.known ≡ Some e → known_front (k + 1) (set ns k m) ≡ known_front k ns ++ e ∷ []
front-more k ns m e counted lt known = rw add-one (front-set_next k ns m e counted.1 lt known)

pub counted-more : (k : ℕ) (ns : List (Note Entry)) (m : Note Entry) (e : Entry) → AreCounted k ns
    → k < length ns → m.known ≡ Some e → AreCounted (k + 1) (set ns k m)
counted-more k ns m e counted lt known = (
  omega (arith, length-set ns k m, counted.0),
  omega (arith, ap length (front-more k ns m e counted lt known), length-append (known_front k ns) (e ∷ []), counted.1),
)

-- if an entry is found, its number is within the known ones
pub found_place : (r : Option (Bor Entry)) (x : Entry) (n known : ℕ) → option_copied r ≡ Some x → 1 ≤ n
    → n ≤ known → MatchOption r ((n ≡ 0) ⊎ (known < n)) (λ _. (1 ≤ n) × (n ≤ known))
found_place None x n known is from to = absurd (cc)
found_place (Some b) x n known is from to = (from, to)

take_front : (es fs : List Entry) → take (length es) (es ++ fs) ≡ es
take_front [] fs = refl
take_front (e ∷ es) fs = ap (λ w. e ∷ w) (take_front es fs)

-- if the remaining entries complete the list, a prefix of all was added
pub fills : (old new rest entries : List Entry) → length old ≤ length new → new ++ rest ≡ old ++ entries
    → Fills old entries new
fills [] new rest entries le e = record {
  count = length new;
  few = omega (arith, ap length e, length-append new rest);
  is = sym (take_front new rest) ∙ ap (take (length new)) e;
}
fills (x ∷ old) [] rest entries le e = absurd (omega arith)
fills (x ∷ old) (y ∷ new) rest entries le e =
    let f = fills old new rest entries (omega arith) (cc) in
    let head : y ≡ x = cc in
    record { count = f.count; few = f.few; is = ap (λ w. w ∷ new) head ∙ ap (λ w. x ∷ w) f.is }

-- a fact that always holds also holds after a fault
pub any_err : {A E : Type 0} (r : Result A E) (P : Type 0) → P → OnErr r P
any_err (Ok a) P p = tt
any_err (Err e) P p = p
