use Rattle.std.proofs.Common.{ap, sym, ◌∙◌, arith, length}
use Rattle.std.specs.Prelude.{nat_eq}
use Rattle.std.specs.Vec.{vec_len}
use Rattle.std.proofs.lemmas.Bool.{eqb-true, eqb-false}
use Rattle.mud_diff.specs.Rows.{diff_text}
use Rattle.mud_diff.proofs.Deciding.{by_next, by_found}
use Rattle.mud_diff.proofs.answering.compare.Goals.{then-is_empty, else-is_empty}
use Rattle.mud_diff.proofs.answering.compare.Goals as goal

pub returns : goal.returns
returns c =
    let old = c.args.old.now in
    let new = c.args.new.now in
    let found = c.in_ok-found.found.items in
    let long = c.deref.ensures.len in
    let same = ap length c.deref.ensures.value in
    record {
      differences = found;
      are = c.in_ok-found.ensures;
      text_is = c.in_ok-text.ensures ∙ ap (diff_text old new) c.deref.ensures.value;
      same = elim c.if-is_empty.branch [
        | then-is_empty w ↦
            let none = eqb-true (vec_len c.in_ok-found.found) 0 (sym c.is_empty.ensures ∙ w.if-is_empty.true) in
            by_next old new w.next_number.ensures.sound w.next_number-then-is_empty.ensures.sound found
            c.in_ok-found.ensures (omega (arith, none, long, same)) c.if-is_empty.is_same
            (w.is_same-is ∙ ap (λ n. nat_eq n w.next_number-then-is_empty.result) w.next_number.ensures.next
            ∙ ap (nat_eq old.next) w.next_number-then-is_empty.ensures.next)
        | else-is_empty w ↦
            let some = eqb-false (vec_len c.in_ok-found.found) 0 (sym c.is_empty.ensures ∙ w.if-is_empty.false) in
            by_found old new found c.in_ok-found.ensures (omega (arith, some, long, same)) c.if-is_empty.is_same
            (w.is_same-is ∙ w.if-is_empty.false)
      ];
    }
