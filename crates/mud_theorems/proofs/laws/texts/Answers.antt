use Rattle.mud_theorems.proofs.Texts.{route_text_is_one, meet_text_is_one}
use Rattle.mud_theorems.proofs.laws.texts.Goals as goal

pub returns-clause-route : goal.returns-clause-route
returns-clause-route c =
    route_text_is_one (λ w sound p room s. ((c.roads.ensures w sound p room).0 s).0) c.routes.ensures

pub returns-clause-meeting : goal.returns-clause-meeting
returns-clause-meeting c = meet_text_is_one c.one_meet_answer.ensures
