use Rattle.std.proofs.Common.{◌≡◌, sym, subst, ◌∙◌}
use Rattle.std.specs.Prelude.{IfOk}
use Rattle.mud_words.specs.Line.{Line, line_of}
use Rattle.mud_rules.specs.Table.{decision}
use Rattle.mud_hall.proofs.Guests.{can-ask}
use Rattle.mud_hall.proofs.answering.respond.Goals as goal

-- a guest asks for no journey
pub respond_to-requires-clause-asked : goal.respond_to-requires-clause-asked
respond_to-requires-clause-asked g c q is =
    let line : Line = line_of c.args.said.now in
    let decided =
    subst (λ r. IfOk r (λ v. v ≡ decision c.args.world.now c.args.player line)) c.in-Ok.is c.decide.ensures.decision in
    can-ask c.args.world.now c.args.player line q (sym decided ∙ is)
