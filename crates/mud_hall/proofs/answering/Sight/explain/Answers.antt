use Rattle.mud_hall.proofs.Showing.{guided, proven}
use Rattle.mud_hall.proofs.answering.Sight.explain.Goals as goal

pub returns-in_ok-guide-in-Journey : goal.returns-in_ok-guide-in-Journey
returns-in_ok-guide-in-Journey g c =
    let sight = c.args.self.now in
    guided sight.world.now sight.version sight.player c.args.query.now c.in-Journey.journey
    c.in_ok-guide-in-Journey.field-0 c.in-Journey.is c.in_ok-guide-in-Journey.ensures.version
    c.in_ok-guide-in-Journey.ensures.guided

pub returns-in_ok-prove-in-Proof : goal.returns-in_ok-prove-in-Proof
returns-in_ok-prove-in-Proof g c =
    let sight = c.args.self.now in
    proven sight.world.now sight.version sight.player c.args.query.now c.in-Proof.journey
    c.in_ok-prove-in-Proof.field-0 c.in-Proof.is c.in_ok-prove-in-Proof.ensures.version
    c.in_ok-prove-in-Proof.ensures.proven
