use Rattle.std.proofs.Common.{string_bytes}
use Rattle.mud_explain.proofs.Writing.{front-written}
use Rattle.mud_explain.proofs.explain.explain.Goals as goal

pub returns-clause-front : goal.returns-clause-front
returns-clause-front g c _ =
    front-written c.args.subject _ _ _ c.in_ok-input.input.items (string_bytes c.in-Ok.out) c.write_all.ensures.front.0
    c.in_ok-input.ensures.bytes (rw c.deref.ensures.value at c.in-Ok.ensures)
    (rw c.as_bytes.ensures.value at c.write_all.ensures.front.1)
