-- Reading and writing of labels and walks.
use Rattle.std.proofs.Common.{◌≡◌, ◌≢◌, ℕ, suc, ◌<◌, true, false, cond, List, [], ◌∷◌, ◌++◌, length, get_or, Option}
use Rattle.std.proofs.Common.{None, Some, refl, sym, ap, subst, ◌∙◌, append_assoc, arith, inl, inr, ◌⊎◌, All}
use Rattle.std.specs.Prelude.{codes, AllPairs, IfSome}
use Rattle.std.specs.Fmt.{decimal}
use Rattle.std.specs.List.{flat_map}
use Rattle.std.specs.Str.{bytes_eq}
use Rattle.std.proofs.lemmas.Bool.{cases_Bool, cond-true, cond-false, and_parts, and_from, ltb-true, lt-ltb}
use Rattle.std.proofs.lemmas.Option.{cond_some}
use Rattle.std.proofs.lemmas.List.{append-nil}
use Rattle.std.proofs.lemmas.List.Elements.{All-nil, All-cons, All-head}
use Rattle.std.proofs.lemmas.List.Kept.{AllPairs-cons}
use Rattle.mud_roads.specs.declared.label.Label.{Label}
use Rattle.mud_cert.specs.declared.cert.Form.{Form}
use Rattle.mud_cert.specs.declared.cert.Form.TheVariants.{One, Two}
use Rattle.mud_cert.specs.Certificate.{IsNumber, IsAmount}
use Rattle.mud_cert.specs.Text.{entry_text, walk_line}
use Rattle.mud_cert.specs.inner.Lines.{labels_line, exit_text}
use Rattle.mud_cert.specs.inner.Reader.{◌>>=◌, after, number_at, object_at, exits_at, entry_at, pieces_at, is_above}
use Rattle.mud_cert.specs.inner.Reader.{rises}
use Rattle.mud_cert.specs.inner.Reader.{labels_at, exit_at, exits_of, walk_at}
use Rattle.mud_cert.proofs.Digits.{number-takes}
use Rattle.mud_cert.proofs.Pieces.{bind_some, joins, says-true, after-front, after-takes, NoDigit, number-read}
use Rattle.mud_cert.proofs.Pieces.{object-takes, object-read, IsReader, pieces-take, pieces-again}

-- ---- exits

exit-takes : (bytes : List ℕ) (x : ℕ × List ℕ) → exit_at bytes ≡ Some x → (bytes ≡ exit_text x.0 ++ x.1) × IsNumber x.0
unfolding exit_at
exit-takes bytes x e =
    let a = bind_some (after (codes " #") bytes) (λ rest. object_at rest) x e in
    let t = object-takes a.0 x a.2 in
    (joins bytes (codes " #") a.0 (decimal x.0) x.1 (after-takes (codes " #") bytes a.0 a.1) t.0, t.1)

exit-again : (x : ℕ) (rest : List ℕ) → IsNumber x → NoDigit rest → exit_at (exit_text x ++ rest) ≡ Some (x, rest)
unfolding exit_at
exit-again x rest low h = rw (after-front (codes " #") (decimal x ++ rest)) (object-read x rest low h)

pub exit-reader : IsReader exit_at exit_text IsNumber
exit-reader = record { takes = exit-takes; again = exit-again; starts = λ x. (codes "#" ++ decimal x, refl) }

-- ---- labels

-- form one leaves the exits out
abbrev pub Counts : Form → ℕ → Type 0
Counts One n = n ≡ 0
Counts Two n = IsAmount n

abbrev exits_text : Form → ℕ → List ℕ
exits_text One n = []
exits_text Two n = codes "/" ++ decimal n

-- the invariant of an entry of a labels line
abbrev pub IsRead : Form → ℕ × Label → Type 0
IsRead form e = IsNumber e.0 × IsAmount e.1.cost × Counts form e.1.exits

exits-take : (form : Form) (bytes : List ℕ) (x : ℕ × List ℕ) → exits_at form bytes ≡ Some x
    → (bytes ≡ exits_text form x.0 ++ x.1) × Counts form x.0
unfolding exits_at
exits-take One bytes x e =
    let same : (0, bytes) ≡ x = cc in
    subst (λ (y : ℕ × List ℕ). (bytes ≡ y.1) × (y.0 ≡ 0)) same (refl, refl)
exits-take Two bytes x e =
    let a = bind_some (after (codes "/") bytes) (λ rest. number_at rest) x e in
    let t = number-takes a.0 x a.2 in
    (joins bytes (codes "/") a.0 (decimal x.0) x.1 (after-takes (codes "/") bytes a.0 a.1) t.0, t.1)

exits-again : (form : Form) (n : ℕ) (rest : List ℕ) → Counts form n → NoDigit rest
    → exits_at form (exits_text form n ++ rest) ≡ Some (n, rest)
unfolding exits_at
exits-again One n rest zeroed h = ap (λ (k : ℕ). Some (k, rest)) (sym zeroed)
exits-again Two n rest few h = rw (after-front (codes "/") (decimal n ++ rest)) (number-read n rest few h)

-- no digit follows a cost
exits-stop : (form : Form) (n : ℕ) (rest : List ℕ) → NoDigit rest → NoDigit (exits_text form n ++ rest)
exits-stop One n rest h = h
exits-stop Two n rest h = refl

entry-parts : (form : Form) (e : ℕ × Label)
    → entry_text form e ≡ (codes " #" ++ decimal e.0 ++ codes ":" ++ decimal e.1.cost) ++ exits_text form e.1.exits
entry-parts One e = sym (append-nil (codes " #" ++ decimal e.0 ++ codes ":" ++ decimal e.1.cost))
entry-parts Two e =
    append_assoc (codes " #" ++ decimal e.0 ++ codes ":" ++ decimal e.1.cost) (codes "/") (decimal e.1.exits)

entry-takes : (form : Form) (bytes : List ℕ) (x : (ℕ × Label) × List ℕ) → entry_at form bytes ≡ Some x
    → (bytes ≡ entry_text form x.0 ++ x.1) × IsRead form x.0
unfolding entry_at
entry-takes form bytes x e =
    let a = bind_some (after (codes " #") bytes)
    (λ rest. object_at rest >>= λ room. after (codes ":") room.1 >>= λ behind. number_at behind >>= λ cost. exits_at
    form cost.1 >>= λ exits. Some ((room.0, record { cost = cost.0; exits = exits.0 }), exits.1)) x e in
    let b = bind_some (object_at a.0)
    (λ room. after (codes ":") room.1 >>= λ behind. number_at behind >>= λ cost. exits_at form cost.1 >>= λ exits.
    Some ((room.0, record { cost = cost.0; exits = exits.0 }), exits.1)) x a.2 in
    let c = bind_some (after (codes ":") b.0.1)
    (λ behind. number_at behind >>= λ cost. exits_at form cost.1 >>= λ exits. Some
    ((b.0.0, record { cost = cost.0; exits = exits.0 }), exits.1)) x b.2 in
    let d = bind_some (number_at c.0)
    (λ cost. exits_at form cost.1 >>= λ exits. Some ((b.0.0, record { cost = cost.0; exits = exits.0 }), exits.1)) x
    c.2 in
    let f = bind_some (exits_at form d.0.1)
    (λ exits. Some ((b.0.0, record { cost = d.0.0; exits = exits.0 }), exits.1)) x d.2 in
    let made : (ℕ × Label) × List ℕ = ((b.0.0, record { cost = d.0.0; exits = f.0.0 }), f.0.1) in
    let is : made ≡ x = cc (f.2) in
    let room = object-takes a.0 b.0 b.1 in
    let cost = number-takes c.0 d.0 d.1 in
    let exits = exits-take form d.0.1 f.0 f.1 in
    let j1 = joins bytes (codes " #") a.0 (decimal b.0.0) b.0.1 (after-takes (codes " #") bytes a.0 a.1) room.0 in
    let j2 = joins bytes (codes " #" ++ decimal b.0.0) b.0.1 (codes ":") c.0 j1
    (after-takes (codes ":") b.0.1 c.0 c.1) in
    let j3 = joins bytes (codes " #" ++ decimal b.0.0 ++ codes ":") c.0 (decimal d.0.0) d.0.1 j2 cost.0 in
    let j4 = joins bytes (codes " #" ++ decimal b.0.0 ++ codes ":" ++ decimal d.0.0) d.0.1
    (exits_text form f.0.0) f.0.1 j3 exits.0 in
    subst (λ (y : (ℕ × Label) × List ℕ). (bytes ≡ entry_text form y.0 ++ y.1) × IsRead form y.0) is
    (j4 ∙ ap (λ (t : List ℕ). t ++ f.0.1) (sym (entry-parts form made.0)), (room.1, cost.1, exits.1))

entry-again : (form : Form) (e : ℕ × Label) (rest : List ℕ) → IsRead form e → NoDigit rest
    → entry_at form (entry_text form e ++ rest) ≡ Some (e, rest)
unfolding entry_at
entry-again form e rest fits h =
    let tail : List ℕ = exits_text form e.1.exits ++ rest in
    let parted : entry_text form e ++ rest ≡ codes " #" ++ (decimal e.0 ++ (codes ":" ++ (decimal e.1.cost ++ tail))) =
    ap (λ (t : List ℕ). t ++ rest) (entry-parts form e) ∙ simp append_assoc in
    ap (entry_at form) parted
    ∙ rw (
      after-front (codes " #") (decimal e.0 ++ (codes ":" ++ (decimal e.1.cost ++ tail))),
      object-read e.0 (codes ":" ++ (decimal e.1.cost ++ tail)) fits.0 refl,
      after-front (codes ":")
          (decimal e.1.cost ++ tail),
      number-read e.1.cost tail fits.1 (exits-stop form e.1.exits rest h),
      exits-again form e.1.exits rest fits.2 h,
    ) refl

entry-starts : (form : Form) (e : ℕ × Label) → (tail : List ℕ) × (entry_text form e ≡ 32 ∷ tail)
entry-starts One e = (codes "#" ++ decimal e.0 ++ codes ":" ++ decimal e.1.cost, refl)
entry-starts Two e = (codes "#" ++ decimal e.0 ++ codes ":" ++ decimal e.1.cost ++ codes "/" ++ decimal e.1.exits, refl)

pub entry-reader : (form : Form) → IsReader (entry_at form) (entry_text form) (IsRead form)
entry-reader form = record { takes = entry-takes form; again = entry-again form; starts = entry-starts form }

-- ---- sorted labels

abbrev Below : ℕ × Label → ℕ × Label → Type 0
Below d e = d.0 < e.0

above-later : (last : Option ℕ) (e x : ℕ × Label) → is_above last e.0 ≡ true → e.0 < x.0 → is_above last x.0 ≡ true
above-later None e x h lt = refl
above-later (Some n) e x h lt = lt-ltb n x.0 (omega (arith, ltb-true n e.0 h))

rises-pairs : (last : Option ℕ) (es : List (ℕ × Label)) → rises last es ≡ true → AllPairs Below es
    × All (λ e. is_above last e.0 ≡ true) es
rises-pairs last [] h = (λ i j d lt in'. absurd (omega arith), All-nil (λ e. is_above last e.0 ≡ true))
rises-pairs last (e ∷ es) h =
    let p = and_parts (is_above last e.0) (rises (Some e.0) es) h in
    let r = rises-pairs (Some e.0) es p.1 in
    let higher : All (Below e) es = λ k d lt. ltb-true e.0 _ (r.1 k d lt) in (
      AllPairs-cons Below e es higher r.0,
      All-cons (λ x. is_above last x.0 ≡ true) e es p.0
          (λ k d lt. above-later last e (get_or es k d) p.0 (higher k d lt)),
    )

pairs-rise : (last : Option ℕ) (es : List (ℕ × Label)) → AllPairs Below es
    → All (λ e. is_above last e.0 ≡ true) es → rises last es ≡ true
pairs-rise last [] pairs above = refl
pairs-rise last (e ∷ es) pairs above =
    and_from (is_above last e.0) (rises (Some e.0) es) (All-head (λ x. is_above last x.0 ≡ true) e es above)
    (pairs-rise (Some e.0) es (λ i j d lt in'. pairs (suc i) (suc j) d (omega arith) (omega arith))
    (λ k d lt. lt-ltb e.0 _ (pairs 0 (suc k) d (omega arith) (omega arith))))

-- ---- the lines

pub labels-take : (form : Form) (line : List ℕ) (es : List (ℕ × Label)) → labels_at form line ≡ Some es
    → (line ≡ labels_line form es) × All (IsRead form) es × AllPairs (λ d e. d.0 < e.0) es
unfolding labels_at
labels-take form line es e =
    let a = bind_some (after (codes "labels") line)
    (λ rest. pieces_at (entry_at form) (length rest) rest >>= λ labels. cond (rises None labels) (Some labels) None)
    es e in
    let b = bind_some (pieces_at (entry_at form) (length a.0) a.0)
    (λ labels. cond (rises None labels) (Some labels) None) es a.2 in
    let g = cond_some (rises None b.0) b.0 es b.2 in
    let t = pieces-take (entry_at form) (entry_text form) (IsRead form) (entry-reader form) (length a.0) a.0 b.0 b.1 in
    subst (λ (x : List (ℕ × Label)). (line ≡ labels_line form x) × All (IsRead form) x
    × AllPairs (λ d f. d.0 < f.0) x) g.1 (
      after-takes (codes "labels") line a.0 a.1 ∙ ap (λ (t : List ℕ). codes "labels" ++ t) t.0,
      t.1,
      (rises-pairs None b.0 g.0).0,
    )

pub labels-again : (form : Form) (es : List (ℕ × Label)) → All (IsRead form) es → AllPairs (λ d e. d.0 < e.0) es
    → labels_at form (labels_line form es) ≡ Some es
unfolding labels_at
labels-again form es fits pairs =
    let all : List ℕ = flat_map (entry_text form) es in
    rw (
      after-front (codes "labels") all,
      pieces-again (entry_at form) (entry_text form) (IsRead form)
          (entry-reader form) (length all) es fits (omega arith),
    )
    (cond-true (rises None es) (Some es) None (pairs-rise None es pairs (λ k d lt. refl)))

exits-of-take : (bytes : List ℕ) (w : Option (List ℕ)) → exits_of bytes ≡ Some w → (xs : List ℕ) × (w ≡ Some xs)
    × (bytes ≡ flat_map exit_text xs) × (bytes ≢ []) × All IsNumber xs
unfolding exits_of
exits-of-take [] w e = absurd cc
exits-of-take (b ∷ bs) w e =
    let a = bind_some (pieces_at exit_at (length (b ∷ bs)) (b ∷ bs)) (λ exits. Some (Some exits)) w e in
    let t = pieces-take exit_at exit_text IsNumber exit-reader (length (b ∷ bs)) (b ∷ bs) a.0 a.1 in
    let is : w ≡ Some a.0 = cc (a.2) in
    (a.0, is, t.0, (λ h. absurd cc), t.1)

exits-of-again : (x : ℕ) (xs : List ℕ) → All IsNumber (x ∷ xs)
    → exits_of (flat_map exit_text (x ∷ xs)) ≡ Some (Some (x ∷ xs))
unfolding exits_of
exits-of-again x xs fits =
    rw (pieces-again exit_at exit_text IsNumber exit-reader (length (flat_map exit_text (x ∷ xs)))
    (x ∷ xs) fits (omega arith)) refl

walk-of : (line rest xs : List ℕ) → line ≡ codes "walk" ++ rest → rest ≡ flat_map exit_text xs
    → (rest ≢ []) → line ≡ walk_line (Some xs)
walk-of line rest [] e f some = absurd (some f)
walk-of line rest (x ∷ xs) e f some = e ∙ ap (λ (t : List ℕ). codes "walk" ++ t) f

abbrev WalkSays : List ℕ → Option (List ℕ) → Type 0
WalkSays line w = (line ≡ walk_line w) × IfSome w (All IsNumber)

pub walk-takes : (line : List ℕ) (w : Option (List ℕ)) → walk_at line ≡ Some w
    → (line ≡ walk_line w) × IfSome w (All IsNumber)
unfolding walk_at
walk-takes line w e =
    go (cases_Bool (bytes_eq line (codes "walk none"))) (cases_Bool (bytes_eq line (codes "walk nothing")))
  where
    go : (bytes_eq line (codes "walk none") ≡ true) ⊎ (bytes_eq line (codes "walk none") ≡ false)
        → (bytes_eq line (codes "walk nothing") ≡ true)
        ⊎ (bytes_eq line (codes "walk nothing") ≡ false) → WalkSays line w
    go (inl t) other =
        let at : Some None ≡ Some w = sym (cond-true (bytes_eq line (codes "walk none")) (Some None) _ t) ∙ e in
        let is : None ≡ w = cc (at) in
        subst (WalkSays line) is (says-true line (codes "walk none") t, tt)
    go (inr f) (inl t) =
        let at : Some (Some []) ≡ Some w = sym
        (cond-false (bytes_eq line (codes "walk none")) (Some None) _ f
        ∙ cond-true (bytes_eq line (codes "walk nothing")) (Some (Some [])) _ t) ∙ e in
        let is : Some [] ≡ w = cc (at) in
        subst (WalkSays line) is (says-true line (codes "walk nothing") t, All-nil IsNumber)
    go (inr f) (inr g) =
        let at : (after (codes "walk") line >>= exits_of) ≡ Some w = sym
        (cond-false (bytes_eq line (codes "walk none")) (Some None) _ f
        ∙ cond-false (bytes_eq line (codes "walk nothing")) (Some (Some [])) _ g) ∙ e in
        let a = bind_some (after (codes "walk") line) exits_of w at in
        let x = exits-of-take a.0 w a.2 in
        subst (WalkSays line) (sym x.1) (walk-of line a.0 x.0 (after-takes (codes "walk") line a.0 a.1) x.2 x.3, x.4)

pub walk-again : (w : Option (List ℕ)) → IfSome w (All IsNumber) → walk_at (walk_line w) ≡ Some w
unfolding walk_at
walk-again None fits = refl
walk-again (Some []) fits = refl
walk-again (Some (x ∷ xs)) fits =
    rw (after-front (codes "walk") (flat_map exit_text (x ∷ xs))) (exits-of-again x xs fits)
