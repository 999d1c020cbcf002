use Rattle.std.proofs.Common.{List, ◌++◌, ◌∷◌, [], sym, ap, ◌∙◌, subst}
use Rattle.std.specs.Prelude.{◌||◌}
use Rattle.std.specs.List.{range_with_len}
use Rattle.mud_roads.specs.Passable.{Knowledge, roads_of}
use Rattle.mud_search.specs.Least.{label_in, AreLeast}
use Rattle.mud_survey.specs.Ways.{IsLinked, Comes, Passes}
use Rattle.mud_survey.specs.Survey.{Lists, IsStranded, IsStrandedBefore}
use Rattle.mud_survey.specs.inner.Marks.{mark_at, Marks}
use Rattle.mud_survey.specs.inner.Trailed.{strandings}
use Rattle.mud_survey.proofs.Trailing.{merged, stranded-more}
use Rattle.mud_survey.proofs.trails.Trails.add.Goals as goal

pub rooms_reached-requires-clause-least : goal.rooms_reached-requires-clause-least
rooms_reached-requires-clause-least c =
    subst (λ (ts : List Knowledge). AreLeast c.args.world.now ts (label_in c.in_ok-labels.labels))
    c.from_ref.ensures.value c.in_ok-labels.ensures.least

pub returns : goal.returns
returns c =
    let w = c.args.world.now in
    let player = c.args.player in
    let old = c.args.self.now in
    let same = c.in_ok-traveller.ensures.player in
    let reached = c.in_ok-reached.reached.items in
    let passed = c.in_ok-passed.passed.items in
    let back = c.in_ok-back.back.items in
    let comes : Marks (λ n. Comes w player n) reached =
    subst (λ p. Marks (λ n. Comes w p n) reached) same c.in_ok-reached.ensures.marks in
    let passes : Marks (λ n. Passes w player n) passed =
    subst (λ p. Marks (λ n. Passes w p n) passed) same c.in_ok-passed.ensures.marks in
    let links : Marks (λ n. IsLinked (roads_of w player) n 0) back =
    subst (λ p. Marks (λ n. IsLinked (roads_of w p) n 0) back) same c.in_ok-back.ensures in
    let next = range_with_len 0 c.next_number.result in
    let stranded = c.in_ok-push_stranded.ensures
    ∙ ap (λ l. old.stranded.items ++ strandings player l c.deref-5.result.now next) c.deref-4.ensures.value
    ∙ ap (λ l. old.stranded.items ++ strandings player reached l next) c.deref-5.ensures.value
    ∙ ap (λ n. old.stranded.items ++ strandings player reached back (range_with_len 0 n)) c.next_number.ensures.next in
    λ before below trailed. record {
      comes = merged (λ p n. Comes w p n) before player old.comes.items reached c.mark_all.new.marks.items
          trailed.comes comes
          (λ n. c.mark_all.ensures.marks n
          ∙ ap (λ l. mark_at old.comes.items n || mark_at l n) c.deref-2.ensures.value);
      comes_size = c.mark_all.ensures.size ∙ c.requires.comes;
      passes = merged (λ p n. Passes w p n) before player old.passes.items passed c.mark_all-2.new.marks.items
          trailed.passes passes
          (λ n. c.mark_all-2.ensures.marks n
          ∙ ap (λ l. mark_at old.passes.items n || mark_at l n) c.deref-3.ensures.value);
      passes_size = c.mark_all-2.ensures.size ∙ c.requires.passes;
      stranded = subst (Lists IsStrandedBefore (IsStranded w (before ++ player ∷ []))) (sym stranded)
          (stranded-more w c.next_number.ensures.sound before player c.requires.player below reached back comes links
          old.stranded.items trailed.stranded);
    }
