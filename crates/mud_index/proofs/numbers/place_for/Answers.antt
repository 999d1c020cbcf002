use Rattle.std.proofs.Common.{◌≡◌, ℕ, ◌<◌, ◌≤◌, List, length, get_or, leb, leb-true, leb-false, subst, arith, rules}
use Rattle.std.specs.List.{insert as insert_at}
use Rattle.std.specs.List.Sorted.{IsNonDecreasing}
use Rattle.std.proofs.lemmas.List.Sorted.{IsPartitionPoint-from_clause, IsPartitionedBy-leb, IsNonDecreasingBy-insert}
use Rattle.mud_index.specs.Rising.{insert}
use Rattle.mud_index.proofs.Places.{placed}
use Rattle.mud_index.proofs.numbers.place_for.Goals as goal

pub returns : goal.returns
returns c =
    let n = c.args.number in
    let xs = c.args.numbers.now in
    let i = c.partition_point.result in
    let point =
    IsPartitionPoint-from_clause (λ y. leb y n) xs i c.partition_point.ensures.partitioned
    (IsPartitionedBy-leb (λ y. y) xs n c.requires) (λ a r q k. search rules) in
    let low : (k : ℕ) (d : ℕ) → k < i
    → get_or xs k d ≤ n = λ k d before. leb-true _ _ (point.0 k d (omega arith) before) in
    let high : (k : ℕ) (d : ℕ) → i ≤ k → k < length xs
    → n < get_or xs k d = λ k d behind within. leb-false _ _ (point.1 k d behind within) in
    let place : insert_at xs i n ≡ insert n xs =
    placed n xs i c.partition_point.ensures.bound (λ k. low k 0) (λ k. high k 0) in
    record {
      within = c.partition_point.ensures.bound;
      place = place;
      rising = subst (λ (v : List ℕ). IsNonDecreasing v) place
          (IsNonDecreasingBy-insert (λ y. y) xs i n c.requires c.partition_point.ensures.bound low
          (λ k d behind within. omega (arith, high k d behind within)));
    }
