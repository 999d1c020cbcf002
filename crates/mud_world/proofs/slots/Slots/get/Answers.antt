use Rattle.std.proofs.Common.{◌≡◌, ◌∙◌, length, sym, ap, arith, slice_get, Some, None}
use Rattle.std.specs.Prelude.{nat_eq, option_copied}
use Rattle.std.specs.Option.{option_and_then}
use Rattle.std.specs.Map.{lookup}
use Rattle.std.proofs.lemmas.Bool.Decides.{nat_tests}
use Rattle.std.proofs.lemmas.Option.{slice_get_read}
use Rattle.mud_world.proofs.Numbered.{number-lookup, none-past}
use Rattle.mud_world.proofs.slots.Slots.get.Goals as goal

pub returns-in_err-get : goal.returns-in_err-get
returns-in_err-get c =
    let was = c.self.inside.slots.items in
    let k = c.args.number in
    let past : slice_get was k ≡ None = none-past was k (λ less. grind (arith, nat_tests)) in
    ap option_copied c.from_residual.ensures
    ∙ sym (number-lookup k was ∙ ap (option_and_then (λ v. v)) past) ∙ ap (lookup (nat_eq k)) c.self.view_is

pub returns : goal.returns
returns c =
    let was = c.self.inside.slots.items in
    let k = c.args.number in
    let there : slice_get was k ≡ Some c.in_ok-get.field-0.now =
    slice_get_read was (length c.deref.result.now) k c.in_ok-get.field-0.now (ap length c.deref.ensures.value)
    (grind (arith, nat_tests)) (rw c.deref.ensures.value at c.in_ok-get.ensures.lookup.1) in
    c.as_ref.ensures.value
    ∙ sym (number-lookup k was ∙ ap (option_and_then (λ v. v)) there) ∙ ap (lookup (nat_eq k)) c.self.view_is
