use Rattle.std.proofs.Common.{◌≡◌, true, false}
use Rattle.mud_web.proofs.FirstLines.{line_at, no_line}
use Rattle.mud_web.specs.inner.Places.{begins_blank}
use Rattle.mud_web.proofs.first_line.is_request_line.Goals as goal

pub returns-then-not-begins_blank : goal.returns-then-not-begins_blank
returns-then-not-begins_blank c =
    let none : begins_blank c.args.line.now ≡ false = cc in
    rw c.is_request.ensures (line_at c.args.line.now c.place_after.result none c.place_after.ensures)

pub returns-else-not-begins_blank : goal.returns-else-not-begins_blank
returns-else-not-begins_blank c =
    let blank : begins_blank c.args.line.now ≡ true = cc in
    (λ h. absurd (cc), λ form. absurd (no_line c.args.line.now blank form))
