use Rattle.std.proofs.Common.{◌≡◌, ◌+◌, ◌∙◌, ℕ, List, Some, slice_get, get_or, sym, ap, subst, arith}
use Rattle.std.specs.Prelude.{All}
use Rattle.std.proofs.lemmas.List.{take_all}
use Rattle.std.proofs.lemmas.Option.{slice_get_within, get_or_from_slice_get}
use Rattle.std.proofs.lemmas.List.Elements.{All-more, recursion_from_All}
use Rattle.mud_world.specs.State.{State}
use Rattle.mud_world.specs.Legal.{refusal, after}
use Rattle.mud_chron.specs.Entry.{Entry, IsEntry}
use Rattle.mud_row.specs.Known.{Known, entry_at}
use Rattle.mud_row.proofs.Legal.{next_legal, next_illegal}
use Rattle.mud_row.proofs.Lines.{entry_at-place}
use Rattle.mud_row.proofs.history.replay_known.Goals.{In-Some}
use Rattle.mud_row.proofs.history.replay_known.Goals as goal

-- the entry that was read is at the next place
read_at : (c : In-Some) → slice_get c.args.pass.now.list c.loop-n.n ≡ Some c.in-Some.entry.now
read_at c =
    sym (entry_at-place c.args.pass.now.list c.loop-n.n) ∙ sym (c.in-Some.ensures.entry
    ∙ ap (λ (p : Known). entry_at p.list (c.loop-n.n + 1)) c.loop-n.invariant.pass)

pub returns-in-Err-clause-err : goal.returns-in-Err-clause-err
returns-in-Err-clause-err c =
    let es : List Entry = c.args.pass.now.list in
    let n : ℕ = c.loop-n.n in
    let e : Entry = c.in-Some.entry.now in
    let w : State = c.loop-n.world in
    let at = read_at (goal.at.returns-in-Err-clause-err c).In-Some in
    next_illegal es n e w c.in-Err.field-0 at c.loop-n.invariant.legal c.loop-n.invariant.world
    (ap (refusal w) (sym c.change-change.ensures.change) ∙ c.in-Err.ensures)

pub loop-n-preserved : goal.loop-n-preserved
loop-n-preserved c =
    let es : List Entry = c.args.pass.now.list in
    let n : ℕ = c.loop-n.n in
    let e : Entry = c.in-Some.entry.now in
    let w : State = c.loop-n.world in
    let at = read_at (goal.at.loop-n-preserved c).In-Some in
    let here : get_or es n e ≡ e = get_or_from_slice_get es n e e at in
    let g = next_legal es n e w at c.loop-n.invariant.legal c.loop-n.invariant.world
    (ap (refusal w) (sym c.change-change.ensures.change) ∙ c.in-Ok.ensures) in
    record {
      pass = c.entry.ensures.same ∙ c.loop-n.invariant.pass;
      each = All-more IsEntry es n e (slice_get_within es n e at) c.loop-n.invariant.each
          (subst IsEntry (sym here) c.change-change.ensures.entry);
      legal = g.legal;
      world = c.in_ok-apply.ensures.ok ∙ ap (after w) c.change-change.ensures.change ∙ g.world;
    }

pub returns-clause-each : goal.returns-clause-each
returns-clause-each c =
    let es : List Entry = c.args.pass.now.list in
    recursion_from_All IsEntry es
    (subst (λ (xs : List Entry). All IsEntry xs) (take_all c.loop-n.n es (omega arith)) c.loop-n.invariant.each)
