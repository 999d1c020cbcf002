use Rattle.std.proofs.Common.{◌≡◌, ℕ, ◌+◌, ◌-◌, ◌<◌, ◌≤◌, Bool, true, false, not, ◌||◌, ◌&&◌, List, [], ◌∷◌, ◌++◌}
use Rattle.std.proofs.Common.{length, map, refl, sym, ◌∙◌, ap, arith, ⊎_elim}
use Rattle.std.specs.Prelude.{is_none, nat_eq}
use Rattle.std.specs.List.{list_any, range_with_len}
use Rattle.std.proofs.lemmas.Bool.{cases_lt, cases_eq, or_parts, eq-eqb}
use Rattle.std.proofs.lemmas.List.{append_assoc}
use Rattle.std.proofs.lemmas.List.FromFn.{map-range_with_len_more}
use Rattle.mud_world.specs.State.{has}
use Rattle.mud_world.proofs.key_index.KeyIndex.grow.Goals as goal

-- a bit that is not unset beside one that is set
set_by : (a b : Bool) → (not a && b) ≡ false → b ≡ true → a ≡ true
set_by true b none is = refl
set_by false b none is = sym none ∙ is

pub loop-object-preserved : goal.loop-object-preserved
loop-object-preserved c =
    let inv = c.loop-object.invariant in
    let was = c.args.self.now in
    let known = length was.0 in
    let n = c.loop-object.object in
    let under = c.loop-object-test.true in
    let next = c.next_number-object-end.ensures.next in
    let f = λ (n : ℕ). has c.args.world.now n (λ r. is_none r.key) in
    let more : n + 1 - known ≡ n - known + 1 = let le = inv.0 in omega (arith, le) in
    let place : known + (n - known) ≡ n = let le = inv.0 in omega (arith, le) in (
      (let le = inv.0 in omega (arith, le)),
      λ none. absurd (let at = inv.1 none in omega (arith, none, at, under, next)),
      c.in_ok-learn.ensures.keyless
          ∙ ap (λ (bs : List Bool). bs ++ f n ∷ []) inv.2
          ∙ append_assoc was.0 (map f (range_with_len known (n - known))) (f n ∷ [])
          ∙ ap (λ (bs : List Bool). was.0 ++ bs) (sym (map-range_with_len_more f known (n - known) n place))
          ∙ ap (λ (k : ℕ). was.0 ++ map f (range_with_len known k)) (sym more),
      λ o none.
          let parts = or_parts (list_any (nat_eq o) c.loop-object.self.1) (not (f n) && nat_eq o n)
          (sym (c.in_ok-learn.ensures.keyed o) ∙ none) in
          let rest = inv.3 o parts.0 in (
            rest.0,
            λ le lt.
                ⊎_elim
                (λ (same : o ≡ n). ap f same ∙ set_by (f n) (nat_eq o n) parts.1 (eq-eqb o n same))
                (λ apart. rest.1 le (omega (arith, lt, apart)))
                (cases_eq o n),
          ),
    )

pub returns : goal.returns
returns c =
    let inv = c.loop-object.invariant in
    let was = c.args.self.now in
    let known = length was.0 in
    let n = c.loop-object.object in
    let test = c.loop-object-test.false in
    let next = c.next_number-object-end.ensures.next in
    let f = λ (n : ℕ). has c.args.world.now n (λ r. is_none r.key) in
    let all : n - known ≡ c.args.world.now.next - known =
    ⊎_elim
    (λ some.
    let from = c.len-object.ensures in
    let view = ap (λ (x : List Bool × List ℕ). length x.0) c.self.view_is in
    let end = c.loop-object.auto.object-end (omega (arith, some, next, from, view)) in
    omega (arith, end, test, next))
    (λ none. let at = inv.1 none in omega (arith, none, at))
    (cases_lt known c.args.world.now.next) in
    record {
      keyless = inv.2 ∙ ap (λ (k : ℕ). was.0 ++ map f (range_with_len known k)) all;
      listed = λ o none.
          let rest = inv.3 o none in
          (rest.0, λ le lt. rest.1 le (omega (arith, lt, test, next)));
    }
