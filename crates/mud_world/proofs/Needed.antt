-- The uses of an object, by the lists.
use Rattle.std.proofs.Common.{◌≡◌, ℕ, Bool, true, false, not, ◌||◌, List, [], ◌∷◌, length, refl, sym, ◌∙◌, ap, arith}
use Rattle.std.proofs.lemmas.Bool.{ne_eqb}
use Rattle.std.specs.Prelude.{◌==◌}
use Rattle.std.specs.List.{list_any}
use Rattle.mud_world.specs.declared.record.Record.{Record}
use Rattle.mud_world.specs.declared.record.Kind.{Kind}
use Rattle.mud_world.specs.declared.record.Kind.TheVariants.{Room, Exit, Thing, Player}
use Rattle.mud_world.specs.Kinds.{kind_needs}
use Rattle.mud_world.specs.State.{State, numbers_with}
use Rattle.mud_world.specs.inner.Maps.{lies_in, leaves, arrives}
use Rattle.mud_world.proofs.Records.{bool_cases}
use Rattle.mud_world.proofs.Numbering.{passing, passing_by}

has_one : (x : ℕ) (xs : List ℕ) → not (length (x ∷ xs) == 0) ≡ true
has_one x xs = ap not (ne_eqb (length (x ∷ xs)) 0 (λ e. omega (arith, e)))

-- a list of numbers is empty if no record passes
some-passing : (test : Record → Bool) (es : List (ℕ × Record))
    → list_any (λ e. test e.1) es ≡ not (length (passing test es) == 0)
some-passing test [] = refl
some-passing test (e ∷ es) =
    bool_cases (test e.1)
    (λ yes. ap (λ b. b || list_any (λ e. test e.1) es) yes
    ∙ sym (ap (λ (xs : List ℕ). not (length xs == 0)) (passing_by test e es true yes)
    ∙ has_one e.0 (passing test es)))
    (λ no. ap (λ b. b || list_any (λ e. test e.1) es) no ∙ some-passing test es
    ∙ sym (ap (λ (xs : List ℕ). not (length xs == 0)) (passing_by test e es false no)))

pub by_list : (test : Record → Bool) (w : State) (l : List ℕ) (empty : Bool) → empty ≡ (length l == 0)
    → l ≡ numbers_with test w → list_any (λ e. test e.1) w.objects ≡ not empty
by_list test w l empty is of = some-passing test w.objects ∙ sym (ap (λ (xs : List ℕ). not (length xs == 0)) of)
    ∙ sym (ap not is)

needs-is : (n : ℕ) (r : Record) → kind_needs n r.kind ≡ (lies_in n r || (leaves n r || arrives n r))
needs-is n r = go r.kind
  where
    or_none : (b : Bool) → b ≡ (b || (false || false))
    or_none true = refl
    or_none false = refl

    go : (k : Kind)
        → kind_needs n k
        ≡ (lies_in n (record r { kind = k }) || (leaves n (record r { kind = k }) || arrives n (record r { kind = k })))
    go Room = refl
    go (Exit p) = refl
    go (Thing p) = or_none _
    go (Player p) = or_none _

any-three : (p q t : Record → Bool) (es : List (ℕ × Record))
    → list_any (λ e. p e.1 || (q e.1 || t e.1)) es
    ≡ (list_any (λ e. p e.1) es || (list_any (λ e. q e.1) es || list_any (λ e. t e.1) es))
any-three p q t [] = refl
any-three p q t (e ∷ es) =
    ap (λ b. (p e.1 || (q e.1 || t e.1)) || b) (any-three p q t es)
    ∙ mix (p e.1) (q e.1) (t e.1) (list_any (λ e. p e.1) es) (list_any (λ e. q e.1) es) (list_any (λ e. t e.1) es)
  where
    mix : (a b c x y z : Bool) → ((a || (b || c)) || (x || (y || z))) ≡ ((a || x) || ((b || y) || (c || z)))
    mix true b c x y z = refl
    mix false b c true y z = ap (λ v. v) (to_true (b || c))
      where
        to_true : (v : Bool) → (v || true) ≡ true
        to_true true = refl
        to_true false = refl
    mix false true c false y z = refl
    mix false false true false true z = refl
    mix false false true false false z = refl
    mix false false false false y z = refl

pub needed : (n : ℕ) (es : List (ℕ × Record))
    → list_any (λ e. kind_needs n e.1.kind) es
    ≡ (list_any (λ e. lies_in n e.1) es || (list_any (λ e. leaves n e.1) es || list_any (λ e. arrives n e.1) es))
needed n es = any-same es ∙ any-three (lies_in n) (leaves n) (arrives n) es
  where
    any-same : (es : List (ℕ × Record))
        → list_any (λ e. kind_needs n e.1.kind) es ≡ list_any (λ e. lies_in n e.1 || (leaves n e.1 || arrives n e.1)) es
    any-same [] = refl
    any-same (e ∷ es) =
        ap (λ b. b || list_any (λ e. kind_needs n e.1.kind) es) (needs-is n e.1)
        ∙ ap (λ b. (lies_in n e.1 || (leaves n e.1 || arrives n e.1)) || b) (any-same es)
