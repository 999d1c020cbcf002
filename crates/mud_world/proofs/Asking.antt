-- Insertion of askers into lists, and their removal.
use Rattle.std.proofs.Common.{◌≡◌, ℕ, Bool, true, false, cond, not, ◌&&◌, ◌||◌, List, [], ◌∷◌, ◌++◌, refl, sym, ◌∙◌, ap}
use Rattle.std.proofs.Common.{inl, inr, ⊎_elim}
use Rattle.std.specs.Prelude.{nat_eq, nat_lt, IsTrue}
use Rattle.std.specs.List.{list_any}
use Rattle.std.specs.Option.{option_map}
use Rattle.std.proofs.lemmas.Bool.{or_left, or_right, eq-eqb, eqb-true, eqb-false, ne_eqb, true≢false}
use Rattle.std.proofs.lemmas.List.Folds.{list_any-append}
use Rattle.mud_key.specs.declared.node.Node.{Node}
use Rattle.mud_key.specs.Node.{key_of as tree_of}
use Rattle.mud_key.specs.Tree.{asks_of}
use Rattle.mud_index.specs.Rising.{insert, put, without}
use Rattle.mud_index.specs.Lists.{list_at, AreSame, AreChanged}
use Rattle.mud_index.specs.inner.Lists.{AreBetween}
use Rattle.mud_world.specs.declared.record.Kind.{Kind}
use Rattle.mud_world.specs.declared.links.Links.{Links}
use Rattle.mud_world.specs.Kinds.{kind_place, kind_passage}
use Rattle.mud_world.specs.State.{is_number}
use Rattle.mud_world.specs.inner.Edits.{AreLinked, AreSameLinks, IsInNone}
use Rattle.mud_world.proofs.Records.{bool_cases}

any-inserted : (n : ℕ) (xs : List ℕ) → list_any (nat_eq n) (insert n xs) ≡ true
any-inserted n [] = or_left (nat_eq n n) false (eq-eqb n n refl)
any-inserted n (x ∷ xs) =
    bool_cases (nat_lt n x)
    (λ e. ap (λ b. list_any (nat_eq n) (cond b (n ∷ x ∷ xs) (x ∷ insert n xs))) e
    ∙ or_left (nat_eq n n) _ (eq-eqb n n refl))
    (λ e. ap (λ b. list_any (nat_eq n) (cond b (n ∷ x ∷ xs) (x ∷ insert n xs))) e
    ∙ or_right (nat_eq n x) _ (any-inserted n xs))

pub put-there : (n : ℕ) (xs : List ℕ) → list_any (nat_eq n) xs ≡ true → put n xs ≡ xs
put-there n xs e = ap (λ b. cond b xs (insert n xs)) e

pub put-new : (n : ℕ) (xs : List ℕ) → list_any (nat_eq n) xs ≡ false → put n xs ≡ insert n xs
put-new n xs e = ap (λ b. cond b xs (insert n xs)) e

pub put-twice : (n : ℕ) (xs : List ℕ) → put n (put n xs) ≡ put n xs
put-twice n xs =
    bool_cases (list_any (nat_eq n) xs)
    (λ e. ap (put n) (put-there n xs e))
    (λ e. put-there n (put n xs) (ap (list_any (nat_eq n)) (put-new n xs e) ∙ any-inserted n xs))

pub without-absent : (n : ℕ) (xs : List ℕ) → list_any (nat_eq n) xs ≡ false → without n xs ≡ xs
without-absent n [] e = refl
without-absent n (x ∷ xs) e =
    bool_cases (nat_eq x n)
    (λ here. absurd
    (true≢false (sym (or_left (nat_eq n x) (list_any (nat_eq n) xs) (eq-eqb n x (sym (eqb-true x n here)))) ∙ e)))
    (λ past.
    ap (λ b. cond (not b) (x ∷ without n xs) (without n xs)) past
    ∙ ap (λ v. x ∷ v)
    (without-absent n xs
    (bool_cases (list_any (nat_eq n) xs)
    (λ f. absurd (true≢false (sym (or_right (nat_eq n x) (list_any (nat_eq n) xs) f) ∙ e))) (λ f. f))))

absent-without : (n : ℕ) (xs : List ℕ) → list_any (nat_eq n) (without n xs) ≡ false
absent-without n [] = refl
absent-without n (x ∷ xs) =
    bool_cases (nat_eq x n)
    (λ here. ap (λ b. list_any (nat_eq n) (cond (not b) (x ∷ without n xs) (without n xs))) here ∙ absent-without n xs)
    (λ past.
    ap (λ b. list_any (nat_eq n) (cond (not b) (x ∷ without n xs) (without n xs))) past
    ∙ ap (λ b. b || list_any (nat_eq n) (without n xs)) (ne_eqb n x (λ same. eqb-false x n past (sym same)))
    ∙ absent-without n xs)

pub without-twice : (n : ℕ) (xs : List ℕ) → without n (without n xs) ≡ without n xs
without-twice n xs = without-absent n (without n xs) (absent-without n xs)

pub without-inserted : (n : ℕ) (xs : List ℕ) → without n (insert n xs) ≡ without n xs
without-inserted n [] = ap (λ b. cond (not b) (n ∷ []) []) (eq-eqb n n refl)
without-inserted n (x ∷ xs) =
    bool_cases (nat_lt n x)
    (λ e.
    ap (λ b. without n (cond b (n ∷ x ∷ xs) (x ∷ insert n xs))) e
    ∙ ap (λ b. cond (not b) (n ∷ without n (x ∷ xs)) (without n (x ∷ xs))) (eq-eqb n n refl))
    (λ e.
    ap (λ b. without n (cond b (n ∷ x ∷ xs) (x ∷ insert n xs))) e
    ∙ ap (λ v. cond (not (nat_eq x n)) (x ∷ v) v) (without-inserted n xs))

-- ---- the questions of a node
abbrev pub asks_node : Node ℕ → ℕ → Bool
asks_node k n = list_any (nat_eq n) (asks_of (tree_of k))

-- a join asks the questions of its two keys
pub asks-either : (k a b l r : Node ℕ) → asks_of (tree_of k) ≡ asks_of (tree_of a) ++ asks_of (tree_of b) → l ≡ a
    → r ≡ b → (n : ℕ) → asks_node k n ≡ (asks_node l n || asks_node r n)
asks-either k a b l r is left right n =
    rw (is, left, right) (list_any-append (nat_eq n) (asks_of (tree_of a)) (asks_of (tree_of b)))

-- ---- successive changes by f
-- f is idempotent
module _ (p q t : ℕ → Bool) (whole : (n : ℕ) → t n ≡ (p n || q n)) (f : List ℕ → List ℕ)
    (twice : (xs : List ℕ) → f (f xs) ≡ f xs) (l l1 l2 : List (ℕ × List ℕ)) where
  step : (a b : Bool) (xs : List ℕ) → cond b (f (cond a (f xs) xs)) (cond a (f xs) xs) ≡ cond (a || b) (f xs) xs
  step true true xs = twice xs
  step true false xs = refl
  step false true xs = refl
  step false false xs = refl

  pub changed-both : AreChanged p f l l1 → AreChanged q f l1 l2 → AreChanged t f l l2
  changed-both first second = λ n.
      second n
      ∙ ap (λ v. cond (q n) (f v) v) (first n)
      ∙ step (p n) (q n) (list_at l n)
      ∙ ap (λ b. cond b (f (list_at l n)) (list_at l n)) (sym (whole n))

  pub between-both : AreChanged p f l l1 → AreBetween q f l1 l2 → AreBetween t f l l2
  between-both first second = λ n.
      bool_cases (p n)
      (λ e.
      let done : list_at l1 n ≡ f (list_at l n) = first n ∙ ap (λ b. cond b (f (list_at l n)) (list_at l n)) e in
      let passes : t n ≡ true = whole n ∙ or_left (p n) (q n) e in
      ⊎_elim
      (λ (same : list_at l2 n ≡ list_at l1 n). inr (passes, same ∙ done))
      (λ (more : IsTrue (q n) × (list_at l2 n ≡ f (list_at l1 n))). inr
      (passes, more.1 ∙ ap f done ∙ twice (list_at l n)))
      (second n))
      (λ e.
      let done : list_at l1 n ≡ list_at l n = first n ∙ ap (λ b. cond b (f (list_at l n)) (list_at l n)) e in
      ⊎_elim
      (λ (same : list_at l2 n ≡ list_at l1 n). inl (same ∙ done))
      (λ (more : IsTrue (q n) × (list_at l2 n ≡ f (list_at l1 n))). inr
      (whole n ∙ or_right (p n) (q n) more.0, more.1 ∙ ap f done))
      (second n))

pub split_and : (k a b : Bool) → (not k && (a || b)) ≡ ((not k && a) || (not k && b))
split_and true a b = refl
split_and false a b = refl

-- an inserted number is removed again, except where it was before
pub taken_out : (m : ℕ) (new old : ℕ → Bool) (l l1 l2 : List (ℕ × List ℕ))
    → ((n : ℕ) → list_any (nat_eq m) (list_at l n) ≡ old n) → AreBetween new (put m) l l1
    → AreChanged (λ n. not (old n) && new n) (without m) l1 l2 → AreSame l l2
taken_out m new old l l1 l2 known between is = λ n.
    is n
    ∙ bool_cases (old n)
    (λ e.
    ap (λ b. cond (not b && new n) (without m (list_at l1 n)) (list_at l1 n)) e
    ∙ ⊎_elim
    (λ (same : list_at l1 n ≡ list_at l n). same)
    (λ (more : IsTrue (new n) × (list_at l1 n ≡ put m (list_at l n))). more.1 ∙ put-there m (list_at l n) (known n ∙ e))
    (between n))
    (λ e.
    let absent = known n ∙ e in
    ap (λ b. cond (not b && new n) (without m (list_at l1 n)) (list_at l1 n)) e
    ∙ ⊎_elim
    (λ (same : list_at l1 n ≡ list_at l n).
    ap (λ v. cond (new n) (without m v) v) same
    ∙ ap (λ v. cond (new n) v (list_at l n)) (without-absent m (list_at l n) absent)
    ∙ either (new n) (list_at l n))
    (λ (more : IsTrue (new n) × (list_at l1 n ≡ put m (list_at l n))).
    ap (λ b. cond b (without m (list_at l1 n)) (list_at l1 n)) more.0
    ∙ ap (without m) (more.1 ∙ put-new m (list_at l n) absent)
    ∙ without-inserted m (list_at l n)
    ∙ without-absent m (list_at l n) absent)
    (between n))
  where
    either : (b : Bool) (xs : List ℕ) → cond b xs xs ≡ xs
    either true xs = refl
    either false xs = refl

-- a number inserted into lists that did not have it is removed again
pub inserted-out : (m : ℕ) (t : ℕ → Bool) (l l1 l2 : List (ℕ × List ℕ))
    → ((n : ℕ) → list_any (nat_eq m) (list_at l n) ≡ false) → AreChanged t (insert m) l l1
    → AreChanged t (without m) l1 l2 → AreSame l l2
inserted-out m t l l1 l2 absent in' out = λ n.
    out n
    ∙ ap (λ v. cond (t n) (without m v) v) (in' n)
    ∙ back (t n) n
  where
    back : (b : Bool) (n : ℕ)
        → cond b (without m (cond b (insert m (list_at l n)) (list_at l n)))
        (cond b (insert m (list_at l n)) (list_at l n)) ≡ list_at l n
    back true n = without-inserted m (list_at l n) ∙ without-absent m (list_at l n) (absent n)
    back false n = refl

pub linked-out : (k : Kind) (m : ℕ) (l l1 l2 : Links) → IsInNone m l → AreLinked k (insert m) l l1
    → AreLinked k (without m) l1 l2 → AreSameLinks l l2
linked-out k m l l1 l2 absent in' out = record {
  contents =
      inserted-out m
      (λ n. is_number n (kind_place k)) l.contents l1.contents l2.contents absent.contents in'.contents out.contents;
  leaving =
      inserted-out m
      (λ n. is_number n (option_map (λ p. p.source) (kind_passage k))) l.leaving l1.leaving l2.leaving absent.leaving
      in'.leaving out.leaving;
  arriving =
      inserted-out m
      (λ n. is_number n (option_map (λ p. p.destination) (kind_passage k))) l.arriving l1.arriving l2.arriving
      absent.arriving in'.arriving out.arriving;
}
