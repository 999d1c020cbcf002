use Rattle.mud_web.proofs.Heads.{answers_read}
use Rattle.mud_web.proofs.asking.asks.Goals as goal

pub returns-in-Ok-Complete-clause-whole : goal.returns-in-Ok-Complete-clause-whole
returns-in-Ok-Complete-clause-whole c =
    answers_read c.args.head.now c.parse_request.new.headers c.in-Ok-Complete.request c.args.origin.now c.answer.result
    (rw c.in-Ok-Complete.field-0-is at c.in-Ok-Complete.ensures.complete) c.answer.ensures.answers
