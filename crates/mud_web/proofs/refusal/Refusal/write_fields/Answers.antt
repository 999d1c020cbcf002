use Rattle.mud_web.proofs.Written.{three_after}
use Rattle.mud_web.proofs.refusal.Refusal.write_fields.Goals as goal

pub returns : goal.returns
returns c =
    three_after _ _ _ _
    (rw (c.as_bytes.ensures.value, c.connection.ensures) at c.in_ok-push_three.ensures)
    (rw (c.as_bytes-2.ensures.value, c.field.ensures) at c.in_ok-extend_from_slice.ensures.items)
    c.in_ok-extend_from_slice-2.ensures.items
