use Rattle.std.proofs.Common.{ap, arith}
use Rattle.std.proofs.lemmas.List.{get_or_past}
use Rattle.std.proofs.Common.{[], None, get_or}
use Rattle.mud_search.specs.inner.Tables.{lists_in}
use Rattle.mud_search.proofs.frontier.Frontier.into_labels.Goals as goal

pub returns-clause-members : goal.returns-clause-members
returns-clause-members g c = λ m room past.
    ap (λ row. get_or row room None)
    (get_or_past (lists_in c.into_member_labels.result) m [] (omega (arith, c.into_member_labels.ensures.count, past)))
