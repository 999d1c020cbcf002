use Rattle.std.proofs.Common.{ap}
use Rattle.std.specs.Prelude.{option_copied}
use Rattle.mud_diff.proofs.Deciding.{negated}
use Rattle.mud_diff.proofs.fields.differs_in.Goals as goal

pub returns-in-Some-Some : goal.returns-in-Some-Some
returns-in-Some-Some c =
    negated c.same_in.result c.args.what c.in-Some-Some.old.now c.in-Some-Some.new.now (option_copied c.args.old)
    (option_copied c.args.new) (ap option_copied c.in-Some-Some.is-0) (ap option_copied c.in-Some-Some.is-1)
    c.same_in.ensures
