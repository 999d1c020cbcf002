use Rattle.std.proofs.Common.{◌≡◌, ◌∷◌, ◌++◌, [], false, length, set, replicate, sym, ◌∙◌, ap, subst}
use Rattle.std.specs.Prelude.{true}
use Rattle.std.proofs.lemmas.List.{length-replicate}
use Rattle.mud_survey.specs.inner.Marks.{IsFlood, mark_at}
use Rattle.mud_survey.proofs.Flooding.{begun}
use Rattle.mud_survey.proofs.Merging.{none-marked}
use Rattle.mud_survey.proofs.back.Flood.new.Goals as goal

pub returns : goal.returns
returns c =
    let w = c.args.world.now in
    let p = c.args.player in
    let count = c.next_number.result in
    let marks = c.in_ok-marks.marks.items in
    let clear : marks ≡ replicate count false = c.in_ok-marks.ensures.items_if_clones_equal (λ y same. same) in
    subst (λ l. IsFlood w p l c.push.new.self.items []) (sym c.mark.ensures)
    (subst (λ l. IsFlood w p (set marks 0 true) l [])
    (sym (c.in_ok-push.ensures.items ∙ ap (λ l. l ++ 0 ∷ []) c.new-waiting.ensures.items))
    (begun w c.next_number.ensures.sound p marks
    (ap (λ l. length l) clear ∙ length-replicate count false ∙ c.next_number.ensures.next)
    (λ n. ap (λ l. mark_at l n) clear ∙ none-marked count n)))
