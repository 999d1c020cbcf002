use Rattle.std.proofs.Common.{◌≡◌, get_or, sym, ◌∙◌, ap, arith}
use Rattle.mud_world.specs.Legal.{refusal, after}
use Rattle.mud_chron.specs.Replay.{world_at}
use Rattle.mud_chron.proofs.Grown.{grown, refused}
use Rattle.mud_chain.proofs.searching.version_in.Goals as goal

pub returns-in-Err-clause-err : goal.returns-in-Err-clause-err
returns-in-Err-clause-err c =
    let is : c.change-change.result.now ≡ (get_or c.args.entries.now c.loop-i.i c.index-entries-i.result).change =
    c.change-change.ensures.change ∙ ap (λ e. e.change) c.index-entries-i.is in
    refused c.args.entries.now c.loop-i.i c.index-entries-i.result c.loop-i.world c.in-Err.field-0
    (omega arith) c.loop-i.invariant.legal c.loop-i.invariant.world
    (ap (refusal c.loop-i.world) (sym is) ∙ c.in-Err.ensures)

pub loop-i-preserved : goal.loop-i-preserved
loop-i-preserved c =
    let is : c.change-change.result.now ≡ (get_or c.args.entries.now c.loop-i.i c.index-entries-i.result).change =
    c.change-change.ensures.change ∙ ap (λ e. e.change) c.index-entries-i.is in
    let g = grown c.args.entries.now c.loop-i.i c.index-entries-i.result c.loop-i.world
    (omega arith) c.loop-i.invariant.legal c.loop-i.invariant.world
    (ap (refusal c.loop-i.world) (sym is) ∙ c.in-Ok.ensures) in
    record {
      legal = g.legal;
      world = c.in_ok-apply.ensures.ok ∙ ap (after c.loop-i.world) is ∙ g.world;
      found = c.in_ok-found.ensures (world_at c.args.entries.now) (sym c.loop-i.invariant.world)
          c.loop-i.invariant.found;
    }
