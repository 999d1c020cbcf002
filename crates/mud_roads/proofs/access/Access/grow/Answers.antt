use Rattle.std.proofs.Common.{◌≡◌, ℕ, ◌+◌, ◌-◌, Bool, [], ◌∷◌, ◌++◌, List, length, map, ap, sym, ◌∙◌, arith, ⊎_elim}
use Rattle.std.specs.List.{range_with_len}
use Rattle.std.proofs.lemmas.Bool.{cases_lt}
use Rattle.std.proofs.lemmas.List.{append_assoc}
use Rattle.std.proofs.lemmas.List.FromFn.{map-range_with_len_more}
use Rattle.mud_world.specs.State.{unlocked}
use Rattle.mud_roads.proofs.access.Access.grow.Goals as goal

pub loop-number-preserved : goal.loop-number-preserved
loop-number-preserved c =
    let inv = c.loop-number.invariant in
    let was = c.args.self.now.marks.items in
    let low = length was in
    let n = c.loop-number.number in
    let test = c.loop-number-test.true in
    let next = c.next_number-number-end.ensures.next in
    let f = unlocked c.args.world.now c.args.self.now.player in
    let more : n + 1 - low ≡ n - low + 1 = let le = inv.1 in omega (arith, le) in
    let place : low + (n - low) ≡ n = let le = inv.1 in omega (arith, le) in
    let one : c.is_unlocked-is_unlocked.result ≡ f n =
    c.is_unlocked-is_unlocked.ensures ∙ ap (λ (p : ℕ). unlocked c.args.world.now p n) inv.0 in (
      inv.0,
      omega (arith, inv.1),
      λ none. absurd (let at = inv.2 none in omega (arith, none, at, test, next)),
      c.in_ok-push.ensures.items
          ∙ ap (λ (bs : List Bool). bs ++ c.is_unlocked-is_unlocked.result ∷ []) inv.3
          ∙ append_assoc was (map f (range_with_len low (n - low))) (c.is_unlocked-is_unlocked.result ∷ [])
          ∙ ap (λ (b : Bool). was ++ (map f (range_with_len low (n - low)) ++ b ∷ [])) one
          ∙ ap (λ (bs : List Bool). was ++ bs) (sym (map-range_with_len_more f low (n - low) n place))
          ∙ ap (λ (k : ℕ). was ++ map f (range_with_len low k)) (sym more),
    )

pub returns-clause-marks : goal.returns-clause-marks
returns-clause-marks c =
    let inv = c.loop-number.invariant in
    let low = length c.args.self.now.marks.items in
    let n = c.loop-number.number in
    let test = c.loop-number-test.false in
    let next = c.next_number-number-end.ensures.next in
    let all : n - low ≡ c.args.world.now.next - low =
    ⊎_elim
    (λ some.
    let from = c.len-number.ensures in
    let end = c.loop-number.auto.number-end (omega (arith, some, next, from)) in
    omega (arith, end, test, next))
    (λ none. let at = inv.2 none in omega (arith, none, at))
    (cases_lt low c.args.world.now.next) in
    inv.3 ∙ ap (λ (k : ℕ). c.args.self.now.marks.items
    ++ map (unlocked c.args.world.now c.args.self.now.player) (range_with_len low k)) all
