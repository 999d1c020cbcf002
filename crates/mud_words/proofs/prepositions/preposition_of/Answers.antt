use Rattle.std.proofs.Common.{ap, sym, ◌∙◌, option_map, arith}
use Rattle.std.specs.Cow.{cow_str_bytes}
use Rattle.mud_words.specs.inner.Spots.{spot_of}
use Rattle.mud_words.proofs.PrepositionLemmas.{counted_here, counted_later, counted_first, counted_end}
use Rattle.mud_words.proofs.prepositions.preposition_of.Goals as goal

pub loop-start-init : goal.loop-start-init
loop-start-init c = counted_first _

pub returns-in-Some-clause-value : goal.returns-in-Some-clause-value
returns-in-Some-clause-value c =
    counted_here cow_str_bytes c.args.args.now c.loop-start.start _ _ (omega arith)
    (sym c.in-Some.is ∙ c.phrase_at.ensures.value)
    ∙ ap (option_map spot_of) c.loop-start.invariant

pub loop-start-preserved : goal.loop-start-preserved
loop-start-preserved c =
    sym (counted_later cow_str_bytes c.args.args.now c.loop-start.start (omega arith)
    (sym c.in_default.is ∙ c.phrase_at.ensures.value)) ∙ c.loop-start.invariant

pub returns-clause-value : goal.returns-clause-value
returns-clause-value c =
    ap (option_map spot_of)
    (counted_end cow_str_bytes c.args.args.now c.loop-start.start (omega arith) ∙ c.loop-start.invariant)
