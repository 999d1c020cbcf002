use Rattle.std.proofs.Common.{arith, ◌++◌, ap, ◌∙◌, ℕ}
use Rattle.std.specs.Prelude.{string_bytes}
use Rattle.std.specs.List.{flat_map}
use Rattle.mud_world.specs.declared.record.Record.{Record}
use Rattle.mud_compact.proofs.Rows.{text_at, one_more, all_left}
use Rattle.mud_renumber.specs.Numbers.{number_in, map_row}
use Rattle.mud_renumber.proofs.telling.tell.Goals as goal

pub loop-number-init : goal.loop-number-init
loop-number-init c =
    let w = c.args.world.now in
    let row = λ (n : ℕ) (r : Record). map_row n (number_in c.args.numbers.now n) in
    all_left row (string_bytes c.new-out.result) w.objects w.next c.next_number-number-end.ensures.sound.rising
    ∙ ap (λ v. v ++ flat_map (λ e. row e.0 e.1) w.objects) c.new-out.ensures.bytes

pub loop-number-preserved : goal.loop-number-preserved
loop-number-preserved c =
    let w = c.args.world.now in
    let row = λ (n : ℕ) (r : Record). map_row n (number_in c.args.numbers.now n) in
    one_more (text_at row w.objects) c.loop-number.number w.next (string_bytes c.loop-number.out)
    (string_bytes c.push_row_at.new.out) (flat_map (λ e. row e.0 e.1) w.objects)
    (omega (arith, c.loop-number-test.true, c.next_number-number-end.ensures.next)) c.loop-number.invariant
    c.in_ok-push_row_at.ensures
