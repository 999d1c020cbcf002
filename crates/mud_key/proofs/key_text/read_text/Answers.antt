use Rattle.std.proofs.Common.{subst, Option, IfSome, String}
use Rattle.std.specs.declared.alloc.Global.{Global}
use Rattle.mud_key.specs.declared.node.Node.{Node}
use Rattle.mud_key.specs.KeyText.{SpellsKey}
use Rattle.mud_key.specs.Node.{reading_of}
use Rattle.mud_key.proofs.WithinLimits.{within_limits}
use Rattle.mud_key.proofs.key_text.read_text.Goals as goal

pub invariant_of-result : goal.invariant_of-result
invariant_of-result c =
    within_limits c.as_bytes-bytes.result.now c.in-Ok.counts (reading_of c.in-Some.tree) c.in-Ok.ensures.whole
    (subst (λ (o : Option (Node (String Global))). IfSome o
    (λ k. SpellsKey c.as_bytes-bytes.result.now (reading_of k))) c.in-Some.is c.in_ok-tree.ensures.found)
    c.if-counts-gt-MOST_OBJECTS.false c.if-counts-gt-MOST_NOTS.false

pub returns : goal.returns
returns c = (
  subst (λ t. SpellsKey t (reading_of c.in-Some.tree)) c.as_bytes-bytes.ensures.value
      (subst (λ (o : Option (Node (String Global))). IfSome o
      (λ k. SpellsKey c.as_bytes-bytes.result.now (reading_of k))) c.in-Some.is c.in_ok-tree.ensures.found),
  within_limits c.as_bytes-bytes.result.now c.in-Ok.counts (reading_of c.in-Some.tree) c.in-Ok.ensures.whole
      (subst (λ (o : Option (Node (String Global))). IfSome o
      (λ k. SpellsKey c.as_bytes-bytes.result.now (reading_of k))) c.in-Some.is c.in_ok-tree.ensures.found)
      c.if-counts-gt-MOST_OBJECTS.false c.if-counts-gt-MOST_NOTS.false,
)
