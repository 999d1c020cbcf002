-- Nesting counts questions.
use Rattle.std.proofs.Common.{◌≡◌, ℕ, zero, suc, ◌+◌, ◌≤◌, Bool, true, false, ◌&&◌, List, [], ◌∷◌, Option, Some, None}
use Rattle.std.proofs.Common.{refl, sym, ◌∙◌, ap, subst, arith, ⊎_elim}
use Rattle.std.specs.Prelude.{nat_eq}
use Rattle.std.specs.Option.{option_map_or}
use Rattle.std.specs.List.{list_any, list_all}
use Rattle.std.proofs.lemmas.Bool.{and_parts, or_cases, or_left, or_right, eqb-true, eq-eqb, true≢false}
use Rattle.mud_key.specs.Tree.{Tree, asks_of}
use Rattle.mud_world.specs.State.{State, key_of, nests}
use Rattle.mud_world.specs.Nesting.{Questions}
use Rattle.mud_world.specs.Laws.{IsNesting, CirclesNestOn}
use Rattle.mud_world.proofs.Records.{bool_cases}

key_cases : {P : Type 0} (v : Option (Tree ℕ)) → (v ≡ None → P) → ((k : Tree ℕ) → v ≡ Some k → P) → P
key_cases None f g = f refl
key_cases (Some k) f g = g k refl

-- a test that all pass passes for each
among-passes : (p : ℕ → Bool) (c : ℕ) (xs : List ℕ) → list_all p xs ≡ true → list_any (nat_eq c) xs ≡ true → p c ≡ true
among-passes p c [] all any = absurd (true≢false (sym any))
among-passes p c (x ∷ xs) all any =
    let parts = and_parts (p x) (list_all p xs) all in
    ⊎_elim
    (λ (here : nat_eq c x ≡ true). ap p (eqb-true c x here) ∙ parts.0)
    (λ later. among-passes p c xs parts.1 later)
    (or_cases (nat_eq c x) (list_any (nat_eq c) xs) any)

-- if not all pass, one fails
some-fails : (p : ℕ → Bool) (xs : List ℕ) → list_all p xs ≡ false
    → (o : ℕ) × (list_any (nat_eq o) xs ≡ true) × (p o ≡ false)
some-fails p [] none = absurd (true≢false none)
some-fails p (x ∷ xs) none =
    bool_cases (p x)
    (λ e.
    let rest = some-fails p xs (sym (ap (λ b. b && list_all p xs) e) ∙ none) in
    (rest.0, or_right (nat_eq rest.0 x) (list_any (nat_eq rest.0) xs) rest.1, rest.2))
    (λ e. (x, or_left (nat_eq x x) (list_any (nat_eq x) xs) (eq-eqb x x refl), e))

same_key : (w : State) (a : ℕ) (k l : Tree ℕ) → key_of w a ≡ Some k → key_of w a ≡ Some l → l ≡ k
same_key w a k l at is = let same : Some l ≡ Some k = sym is ∙ at in cc

-- there are at most n questions
pub questions-few : (w : State) (n a : ℕ) (k : Tree ℕ) → key_of w a ≡ Some k → nests w n k ≡ true → (m b : ℕ)
    → Questions w m a b → m ≤ n
questions-few w n a k at nest zero b way = omega arith
questions-few w zero a k at nest (suc m) b way =
    let asks =
    subst (λ (k : Tree ℕ). list_any (nat_eq way.0) (asks_of k) ≡ true)
    (same_key w a k way.1.key at way.1.is) way.1.asks in
    absurd (true≢false (sym (among-passes (λ o. false) way.0 (asks_of k) nest asks)))
questions-few w (suc n) a k at nest (suc zero) b way = omega arith
questions-few w (suc n) a k at nest (suc (suc m)) b way =
    let asks =
    subst (λ (k : Tree ℕ). list_any (nat_eq way.0) (asks_of k) ≡ true)
    (same_key w a k way.1.key at way.1.is) way.1.asks in
    let next = way.2.1 in
    let deep = sym (ap (λ v. option_map_or (nests w n) v true) next.is)
    ∙ among-passes (λ o. option_map_or (nests w n) (key_of w o) true) way.0 (asks_of k) nest asks in
    let rest = questions-few w n way.0 next.key next.is deep (suc m) b way.2 in
    omega (arith, rest)

-- there is one question too many
pub questions-more : (w : State) (n a : ℕ) (k : Tree ℕ) → key_of w a ≡ Some k → nests w n k ≡ false
    → (b : ℕ) × Questions w (suc n) a b
questions-more w zero a k at nest =
    let o = some-fails (λ o. false) (asks_of k) nest in
    (o.0, (o.0, record { key = k; is = at; asks = o.1 }, refl))
questions-more w (suc n) a k at nest =
    let o = some-fails (λ o. option_map_or (nests w n) (key_of w o) true) (asks_of k) nest in
    key_cases (key_of w o.0)
    (λ e. absurd (true≢false (sym (ap (λ v. option_map_or (nests w n) v true) e) ∙ o.2)))
    (λ l e.
    let rest = questions-more w n o.0 l e (sym (ap (λ v. option_map_or (nests w n) v true) e) ∙ o.2) in
    (rest.0, (o.0, record { key = k; is = at; asks = o.1 }, rest.1)))

pub nesting_law : IsNesting
nesting_law = λ w a k at n. (
  λ nest. questions-few w n a k at nest,
  λ few.
      bool_cases (nests w n k)
      (λ e. e)
      (λ e.
      let more = questions-more w n a k at e in
      let le = few (suc n) more.0 more.1 in
      absurd (omega (arith, le))),
)

-- two chains joined end to end
pub questions-join : (w : State) (n l a b c : ℕ) → Questions w n a b → Questions w l b c
    → (t : ℕ) × (t ≡ n + l) × Questions w t a c
questions-join w zero l a b c first second = (l, omega arith, subst (λ (v : ℕ). Questions w l v c) (sym first) second)
questions-join w (suc n) l a b c first second =
    let rest = questions-join w n l first.0 b c first.2 second in
    let long = rest.1 in
    (suc rest.0, omega (arith, long), (first.0, first.1, rest.2))

-- a cycle repeated
questions-round : (w : State) (a m : ℕ) → Questions w (suc m) a a → (j : ℕ) → (l : ℕ) × (j ≤ l) × Questions w l a a
questions-round w a m circle zero = (0, omega arith, refl)
questions-round w a m circle (suc j) =
    let rest = questions-round w a m circle j in
    let joined = questions-join w (suc m) rest.0 a a a circle rest.2 in
    let le = rest.1 in
    let long = joined.1 in
    (joined.0, omega (arith, le, long), joined.2)

pub circles_law : CirclesNestOn
circles_law = λ w a m k circle at n.
    bool_cases (nests w n k)
    (λ e.
    let long = questions-round w a m circle (suc n) in
    let few = questions-few w n a k at e long.0 a long.2 in
    let le = long.1 in
    absurd (omega (arith, few, le)))
    (λ e. e)
