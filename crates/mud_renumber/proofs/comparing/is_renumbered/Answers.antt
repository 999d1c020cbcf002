use Rattle.std.proofs.Common.{◌≡◌, ◌≤◌, ◌<◌, length, refl, subst, arith}
use Rattle.std.specs.Prelude.{ℕ, IfSome}
use Rattle.mud_key.specs.Tree.{AllObjects}
use Rattle.mud_world.specs.State.{key_of}
use Rattle.mud_renumber.specs.Numbers.{number_at}
use Rattle.mud_renumber.proofs.Compared.{renumbered}
use Rattle.mud_renumber.proofs.comparing.is_renumbered.Goals as goal

pub returns : goal.returns
returns c given =
    let w = c.args.world.now in
    let u = c.args.other.now in
    let long : length c.args.numbers.now ≡ w.next = omega arith in
    let fewer : u.next ≤ w.next = omega arith in
    let next : c.next_number-2.result ≡ u.next = c.next_number-2.ensures.next in
    renumbered c.args.numbers.now w u c.next_number.ensures.sound c.next_number-2.ensures.sound long fewer
    (c.if-not-same_records_all.ensures refl) (c.if-not-are_all_old.ensures refl) (c.if-not-do_rise.ensures refl)
    (subst
    (λ high. (n : ℕ) → n < w.next → IfSome (key_of w n) (AllObjects (λ o. number_at c.args.numbers.now o < high)))
    next (c.are_all_given.ensures given))
