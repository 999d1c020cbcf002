use Rattle.std.proofs.Common.{◌∙◌, sym, ap, Ok, add-one}
use Rattle.std.specs.Prelude.{filter}
use Rattle.std.specs.List.{range_with_len}
use Rattle.mud_rules.specs.Matches.{sole}
use Rattle.mud_rules.specs.inner.Matches.{is_named, fits, together, is_sort}
use Rattle.mud_rules.proofs.Ranging.{range_more}
use Rattle.mud_rules.proofs.Joining.{both_hit, both_miss}
use Rattle.mud_rules.proofs.matching.sole_of_sort.Goals as goal
use Rattle.mud_rules.proofs.matching.sole_of_sort.Goals.{then-is_candidate, else-is_candidate}

pub loop-number-preserved : goal.loop-number-preserved
loop-number-preserved c =
    let p = is_sort c.args.sort c.args.world.now in
    let q = is_named (fits c.args.likeness c.args.text.now) c.args.world.now in
    let n = c.loop-number.number in
    let on = ap (λ ns. sole (filter q (filter p ns))) (sym (range_more n) ∙ ap (range_with_len 0) (sym (add-one n))) in
    elim c.if-is_candidate.branch [
      | then-is_candidate w ↦
          w.found-is ∙ w.together-found.ensures ∙ ap (λ f. together f (Ok n)) c.loop-number.invariant
          ∙ both_hit p q (range_with_len 0 n) n (sym w.if-is_candidate.ensures) ∙ on
      | else-is_candidate w ↦
          w.found-is ∙ c.loop-number.invariant ∙ both_miss p q (range_with_len 0 n) n (sym w.if-is_candidate.ensures)
          ∙ on
    ]
