use Rattle.std.proofs.Common.{false, length, [], sym, ◌∙◌, ap, subst}
use Rattle.std.proofs.lemmas.List.{length-replicate}
use Rattle.mud_survey.specs.Ways.{Comes, Passes}
use Rattle.mud_survey.specs.Survey.{Lists, IsStranded, IsStrandedBefore}
use Rattle.mud_survey.specs.inner.Marks.{mark_at}
use Rattle.mud_survey.proofs.Merging.{none-marked}
use Rattle.mud_survey.proofs.Trailing.{marks-none, stranded-none}
use Rattle.mud_survey.proofs.trails.Trails.new.Goals as goal

pub returns : goal.returns
returns c =
    let w = c.args.world.now in
    let count = c.next_number-count.result in
    let comes = c.in_ok-comes.ensures.items_if_clones_equal (λ y same. same) in
    let passes = c.in_ok-passes.ensures.items_if_clones_equal (λ y same. same) in
    record {
      comes = marks-none (λ p n. Comes w p n) c.in_ok-comes.comes.items
          (λ n. ap (λ l. mark_at l n) comes ∙ none-marked count n);
      comes_size = ap (λ l. length l) comes ∙ length-replicate count false ∙ c.next_number-count.ensures.next;
      passes = marks-none (λ p n. Passes w p n) c.in_ok-passes.passes.items
          (λ n. ap (λ l. mark_at l n) passes ∙ none-marked count n);
      passes_size = ap (λ l. length l) passes ∙ length-replicate count false ∙ c.next_number-count.ensures.next;
      stranded = subst (Lists IsStrandedBefore (IsStranded w [])) (sym c.new-stranded.ensures.items) (stranded-none w);
    }
