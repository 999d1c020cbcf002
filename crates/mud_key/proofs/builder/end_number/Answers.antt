use Rattle.std.proofs.Common.{◌≡◌, ℕ, Bool, false, ◌<◌, length, string_bytes, ap, sym, ◌∙◌, arith}
use Rattle.std.specs.Bool.{◌==◌}
use Rattle.std.specs.String.{string_len}
use Rattle.std.proofs.lemmas.Result.{IfOk-weaker}
use Rattle.std.proofs.lemmas.Bool.Decides.{nat_tests}
use Rattle.mud_key.specs.inner.Machine.{extend_chain, atom, after_step}
use Rattle.mud_key.specs.inner.Builder.{front_of, outer_of}
use Rattle.mud_key.proofs.Building.{number_behind}
use Rattle.mud_key.proofs.builder.end_number.Goals as goal

not_empty : (n : ℕ) (r : Bool) → r ≡ (n == 0) → r ≡ false → 0 < n
not_empty n r e f = grind (arith, nat_tests)

pub returns : goal.returns
returns c =
    let some : 0 < string_len c.args.digits =
    not_empty (string_len c.args.digits) c.is_empty.result c.is_empty.ensures c.if-is_empty.false in
    let positive : 0 < length (string_bytes c.args.digits) = omega arith in
    IfOk-weaker c.finish.result _ _
    (λ r e byte.
    e
    ∙ ap (λ x.
    after_step (outer_of c.args.outer.items)
    (extend_chain (front_of c.args.lead.front) (atom c.args.lead.asked x)) c.args.class) c.in_ok-text.ensures
    ∙ sym (number_behind (outer_of c.args.outer.items) (front_of c.args.lead.front) c.args.lead.asked
    (string_bytes c.args.digits) c.args.class byte c.requires positive))
    c.finish.ensures
