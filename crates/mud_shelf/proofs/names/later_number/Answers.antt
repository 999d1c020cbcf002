use Rattle.std.proofs.Common.{arith, sym, ◌∙◌, ap}
use Rattle.std.specs.Fmt.{decimal}
use Rattle.mud_shelf.proofs.Spelled.{unread, read_as, apart}
use Rattle.mud_shelf.proofs.names.later_number.Goals as goal

pub returns-in_default : goal.returns-in_default
returns-in_default c n from to is =
    unread c.args.digits.now c.in_default.field-0 c.parse.result c.in_default.is c.parse.ensures.value.0 n to is

pub returns-then-number-lt2 : goal.returns-then-number-lt2
returns-then-number-lt2 c n from to is =
    let m = read_as c.args.digits.now c.in-Ok.number c.parse.result c.in-Ok.is c.parse.ensures.value.0 n to is in
    omega (arith, m, from, to)

pub returns-then-ne : goal.returns-then-ne
returns-then-ne c n from to is =
    let m = read_as c.args.digits.now c.in-Ok.number c.parse.result c.in-Ok.is c.parse.ensures.value.0 n to is in
    apart c.format.result.now c.args.digits.now c.ne.result c.if-ne.true c.ne.ensures
    (c.format.ensures.text ∙ ap decimal (sym m) ∙ sym is)
