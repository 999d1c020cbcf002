use Rattle.std.proofs.Common.{arith}
use Rattle.mud_web.proofs.FieldLists.{found_more, found_all}
use Rattle.mud_web.proofs.fields.find.Goals as goal

pub loop-header-preserved : goal.loop-header-preserved
loop-header-preserved c = found_more _ _ _ _ _ _ c.loop-header-test.true (c.see-found.ensures _ c.loop-header.invariant)

pub returns : goal.returns
returns c = found_all _ _ _ _ _ (omega arith) c.loop-header.invariant
