use Rattle.std.proofs.Common.{◌<◌, ℕ, ◌+◌, List, length, ◌∙◌, ap, sym, subst, arith}
use Rattle.std.specs.Prelude.{Bool, IsTrue, ◌↔◌}
use Rattle.std.proofs.lemmas.List.{length_push}
use Rattle.mud_survey.specs.Ways.{Passes}
use Rattle.mud_survey.specs.inner.Marks.{mark_at}
use Rattle.mud_survey.proofs.Coming.{marked-more}
use Rattle.mud_survey.proofs.Testing.{all-passed}
use Rattle.mud_survey.proofs.trails.exits_passed.Goals as goal

pub returns-clause-marks : goal.returns-clause-marks
returns-clause-marks c =
    all-passed c.args.world.now c.next_number-next.ensures.sound c.args.traveller.now.player c.loop-exit.exit
    c.loop-exit.marks.items c.loop-exit.invariant.size
    (let end = c.loop-exit-test.false in let next = c.next_number-next.ensures.next in omega (arith, end, next))
    c.loop-exit.invariant.so

pub loop-exit-preserved : goal.loop-exit-preserved
loop-exit-preserved c =
    let items = c.in_ok-push.ensures.items in
    record {
      so = subst
          (λ (l : List Bool). (m : ℕ) → m < c.loop-exit.exit + 1
          → IsTrue (mark_at l m) ↔ Passes c.args.world.now c.args.traveller.now.player m)
          (sym {A = List Bool} items)
          (marked-more (Passes c.args.world.now c.args.traveller.now.player) c.loop-exit.marks.items c.loop-exit.exit
          c.passes.result c.loop-exit.invariant.size c.loop-exit.invariant.so c.passes.ensures);
      size = ap (λ (l : List Bool). length l) items ∙ length_push c.loop-exit.marks.items c.passes.result
          ∙ ap (λ n. n + 1) c.loop-exit.invariant.size;
    }
