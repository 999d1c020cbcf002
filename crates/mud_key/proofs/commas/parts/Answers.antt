use Rattle.std.proofs.Common.{ap, ◌∙◌, lit<, map}
use Rattle.std.proofs.lemmas.Iterator.Consumers.{YieldsList-end}
use Rattle.std.proofs.lemmas.Iterator.Splits.{YieldsList-from_str_split}
use Rattle.std.specs.Str.Iter.{split_text, split_has_more, split_pattern}
use Rattle.mud_key.specs.inner.NamesTexts.{without_outer_spaces}
use Rattle.mud_key.proofs.commas.parts.Goals as goal

pub returns : goal.returns
returns c =
    let same = c.into_iter-stretch-iterator.ensures.into_iter_gives in
    let split = c.split-stretch-items.ensures in
    let all = YieldsList-end
    (YieldsList-from_str_split 44 c.args.text.now (lit< tt) (ap split_text same ∙ split.text)
    (ap split_has_more same ∙ split.has_more) (ap split_pattern same ∙ split.pattern))
    c.loop-stretch.yielded _ c.loop-stretch.yielded_by _ _ c.in-None.is c.next.ensures.steps in
    c.loop-stretch.invariant ∙ ap (λ z. map without_outer_spaces z) all.0
