use Rattle.std.proofs.Common.{◌∙◌, ◌||◌, Bool, ap, arith}
use Rattle.mud_web.proofs.FieldLists.{member_more, member_all}
use Rattle.mud_web.proofs.fields.has_member.Goals as goal

pub loop-header-preserved : goal.loop-header-preserved
loop-header-preserved c =
    ap (λ (b : Bool). c.loop-header.has || b) c.is_listed_in-has.ensures
    ∙ member_more c.args.head.now c.args.spans.now c.args.name.now c.args.wanted.now c.loop-header.header-index _
    c.loop-header.has c.loop-header-test.true c.loop-header.invariant

pub returns : goal.returns
returns c = member_all _ _ _ _ _ _ (omega arith) c.loop-header.invariant
