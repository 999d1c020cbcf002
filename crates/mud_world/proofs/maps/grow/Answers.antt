use Rattle.std.proofs.Common.{◌∙◌, ◌∷◌, Some, None, [], cond, ap, refl}
use Rattle.std.specs.Prelude.{nat_eq}
use Rattle.std.specs.Map.{lookup, remove_entry}
use Rattle.std.proofs.lemmas.Bool.{eq-eqb}
use Rattle.mud_world.proofs.Going.{on_err}
use Rattle.mud_world.proofs.Records.{remove-last, lookup-append_right, unused}
use Rattle.mud_world.proofs.maps.grow.Goals as goal

pub returns-then-is_err-clause-err_records : goal.returns-then-is_err-clause-err_records
returns-then-is_err-clause-err_records c =
    on_err c.introduce-done.result
    (c.take.ensures.rest
    ∙ ap (remove_entry (nat_eq c.args.number)) c.in_ok-put.ensures.ok
    ∙ remove-last c.args.number c.args.object c.args.records.now
    (unused c.args.number c.args.records.now c.requires.new))

pub returns-else-is_err-clause-ok_owners : goal.returns-else-is_err-clause-ok_owners
returns-else-is_err-clause-ok_owners c =
    let n = c.args.number in
    let r = c.args.object in
    c.introduce-done.ensures.ok_owners r
    (ap (lookup (nat_eq n)) c.in_ok-put.ensures.ok
    ∙ lookup-append_right n c.args.records.now ((n, r) ∷ []) (unused n c.args.records.now c.requires.new)
    ∙ ap (λ b. cond b (Some r) None) (eq-eqb n n refl))
