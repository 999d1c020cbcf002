use Rattle.std.proofs.Common.{◌∙◌, sym}
use Rattle.std.proofs.lemmas.Result.{on_ok_weaker}
use Rattle.mud_index.proofs.Seen.{put-there, put-new}
use Rattle.mud_index.proofs.lists.Lists.put.Goals as goal

pub returns-then-has-clause-ok : goal.returns-then-has-clause-ok
returns-then-has-clause-ok c = put-there c.args.self.now c.args.holder c.args.number (sym c.has.ensures ∙ c.if-has.true)

pub returns-clause-ok : goal.returns-clause-ok
returns-clause-ok c =
    on_ok_weaker c.insert.result
    (λ is. put-new c.args.self.now c.insert.new.self c.args.holder c.args.number
    (sym c.has.ensures ∙ c.if-has.false) is)
    c.insert.ensures.ok
