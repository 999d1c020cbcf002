use Rattle.std.proofs.Common.{◌≡◌, ◌⊎◌, ◌<◌, ℕ, List, [], ◌∷◌, ◌++◌, length, get_or, sym, subst, ap, ◌∙◌, ◌+◌}
use Rattle.std.proofs.lemmas.List.{length-append}
use Rattle.mud_journal.specs.Crash.{AreThere}
use Rattle.mud_tests.proofs.Holes.{one_more}
use Rattle.mud_tests.proofs.disk.holes.Goals as goal

pub loop-at-preserved : goal.loop-at-preserved
loop-at-preserved c =
    let written : List ℕ = c.args.written.now in
    let bytes : List ℕ = c.loop-at.bytes.items in
    let b : ℕ = c.byte_left.result in
    let is : c.push.new.self.items ≡ bytes ++ b ∷ [] = c.in_ok-push.ensures.items in
    let left : (length bytes < length written) × (b ≡ get_or written (length bytes) 0) ⊎ (b ≡ 0) =
    subst (λ n. (n < length written) × (b ≡ get_or written n 0) ⊎ (b ≡ 0)) (sym c.loop-at.invariant.count)
    c.byte_left.ensures in
    record {
      there = subst (AreThere written) (sym is) (one_more written bytes b c.loop-at.invariant.there left);
      count = ap length is ∙ length-append bytes (b ∷ []) ∙ ap (λ n. n + 1) c.loop-at.invariant.count;
    }
