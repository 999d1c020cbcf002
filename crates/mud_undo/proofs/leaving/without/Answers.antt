use Rattle.std.proofs.Common.{ap, sym, ◌∙◌, subst, refl, arith}
use Rattle.mud_world.specs.Opening.{opening_state}
use Rattle.mud_chron.specs.Replay.{changes_of, AreLegal}
use Rattle.mud_undo.specs.Without.{count_made}
use Rattle.mud_undo.proofs.Built.{when-false, when-true}
use Rattle.mud_undo.proofs.Numbers.{number-more, number-room}
use Rattle.mud_undo.proofs.Parts.{more-at}
use Rattle.mud_undo.proofs.leaving.without.Goals as goal

pub put_part-requires-clause-numbers : goal.put_part-requires-clause-numbers
put_part-requires-clause-numbers c =
    let room = number-room c.args.entries.now c.loop-i.i c.index-entries-i.result c.requires.legal c.loop-i-test.true in
    let at = ap (λ e. count_made e.change.deed) c.index-entries-i.is in
    let number = c.loop-i.invariant.number in
    omega (arith, room, at, number)

pub returns-then-not-branch-clause-err : goal.returns-then-not-branch-clause-err
returns-then-not-branch-clause-err c =
    let more = more-at c.args.choice.now c.args.entries.now c.loop-i.i c.index-entries-i.result c.loop-i.next
    c.loop-i.site.entries.items c.loop-i-test.true c.loop-i.invariant.is c.loop-i.invariant.number
    c.index-entries-i.is in (
      c.loop-i.i,
      refl,
      subst (λ l. AreLegal (changes_of l)) c.loop-i.invariant.is c.loop-i.invariant.built.legal,
      λ legal. when-false _ _ c.in_ok-put_part.field-0 c.in_ok-put_part.ensures.put c.if-not-branch.true
          (subst (λ l. AreLegal (changes_of l)) more legal),
    )

pub overflow_add-next : goal.overflow_add-next
overflow_add-next c =
    let room = number-room c.args.entries.now c.loop-i.i c.index-entries-i.result c.requires.legal c.loop-i-test.true in
    let at = ap (λ e. count_made e.change.deed) c.index-entries-i.is in
    let same = ap (λ v. count_made v.deed) c.change.ensures.change in
    let count = c.count_made.ensures.count in
    let number = c.loop-i.invariant.number in
    omega (arith, room, at, number, count, same)

pub loop-i-preserved : goal.loop-i-preserved
loop-i-preserved c =
    let more = more-at c.args.choice.now c.args.entries.now c.loop-i.i c.index-entries-i.result c.loop-i.next
    c.loop-i.site.entries.items c.loop-i-test.true c.loop-i.invariant.is c.loop-i.invariant.number
    c.index-entries-i.is in
    let next = number-more opening_state.next c.args.entries.now c.loop-i.i c.index-entries-i.result
    c.loop-i-test.true in
    let at = ap (λ e. count_made e.change.deed) c.index-entries-i.is in
    let same = ap (λ v. count_made v.deed) c.change.ensures.change in
    let count = c.count_made.ensures.count in
    let number = c.loop-i.invariant.number in
    record {
      is = when-true _ _ c.in_ok-put_part.field-0 c.in_ok-put_part.ensures.put c.if-not-branch.false ∙ sym more;
      built = when-true _ _ c.in_ok-put_part.field-0 c.in_ok-put_part.ensures.built c.if-not-branch.false;
      number = omega (arith, next, at, number, count, same);
    }
