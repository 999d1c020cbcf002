use Rattle.std.proofs.Common.{sym, ap, ◌∙◌, ◌∷◌, ◌++◌}
use Rattle.mud_shelf.proofs.Spelled.{no_front, by_digits}
use Rattle.mud_shelf.proofs.names.volume_number.Goals as goal

pub returns-in_default : goal.returns-in_default
returns-in_default c n volume is = no_front c.args.journal.now c.args.name.now c.in_default.ensures.cases n volume is

pub returns-in-Some-strip_prefix : goal.returns-in-Some-strip_prefix
returns-in-Some-strip_prefix c =
    let e = c.in-Some.ensures.cases in
    let f = c.in-Some-strip_prefix.ensures.cases in
    by_digits c.args.journal.now c.args.name.now c.in-Some.rest.now c.in-Some-strip_prefix.digits.now
    c.later_number.result (e.1.1 ∙ ap (λ r. c.args.journal.now ++ r) (sym e.2))
    (f.1.1 ∙ ap (λ d. 46 ∷ d) (sym f.2)) c.later_number.ensures
