use Rattle.std.proofs.Common.{◌∙◌, ◌&&◌, not, ℕ, ap}
use Rattle.mud_key.specs.Node.{key_of as tree_of}
use Rattle.mud_key.specs.Tree.{asks_of}
use Rattle.mud_index.specs.Rising.{without}
use Rattle.mud_world.specs.inner.Edits.{asked_by}
use Rattle.mud_world.proofs.Asking.{asks_node, asks-either, changed-both, without-twice, split_and}
use Rattle.mud_world.proofs.askers.+end.Goals as goal

pub returns-in-Join : goal.returns-in-Join
returns-in-Join t c =
    let kept = λ (n : ℕ). asked_by n c.args.kept.now in
    changed-both (λ n. not (kept n) && asks_node c.deref-in-Join.result.now n)
    (λ n. not (kept n) && asks_node c.deref-in-Join-2.result.now n)
    (λ n. not (kept n) && asks_node c.args.node.now n)
    (λ n. ap (λ b. not (kept n) && b) (asks-either c.args.node.now c.in-Join.left.value c.in-Join.right.value
    c.deref-in-Join.result.now c.deref-in-Join-2.result.now (ap (λ v. asks_of (tree_of v)) c.in-Join.is)
    c.deref-in-Join.ensures c.deref-in-Join-2.ensures n) ∙ split_and (kept n) _ _)
    (without c.args.asker)
    (without-twice c.args.asker) c.args.askers.now c.end-in-Join.new.askers c.end-in-Join-2.new.askers
    c.end-in-Join.ensures c.end-in-Join-2.ensures
