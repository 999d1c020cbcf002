use Rattle.std.proofs.Common.{ap, sym, ◌∙◌, ◌||◌}
use Rattle.mud_world.specs.State.{unlocked}
use Rattle.mud_world.proofs.Marking.{keyless-unlocked}
use Rattle.mud_world.proofs.world.World.is_unlocked.Goals as goal

pub returns-then-is_keyless : goal.returns-then-is_keyless
returns-then-is_keyless c =
    let open' = unlocked c.args.self.now c.args.candidate c.args.object in
    c.if-is_keyless.true
    ∙ ap (λ b. b || open') (sym c.if-is_keyless.true ∙ c.is_keyless.ensures)
    ∙ keyless-unlocked c.args.self.now c.args.candidate c.args.object
