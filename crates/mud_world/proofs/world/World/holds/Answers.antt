use Rattle.std.proofs.Common.{◌∙◌, sym}
use Rattle.std.proofs.lemmas.Bool.{and_parts, and_from}
use Rattle.mud_world.proofs.Containing.{within-Within}
use Rattle.mud_world.proofs.world.World.holds.Goals as goal

pub returns-then-exists-clause-follows : goal.returns-then-exists-clause-follows
returns-then-exists-clause-follows c =
    let same = within-Within c.args.self.now c.know_sound.ensures c.args.object c.args.holder in (
      λ is. same.0 (and_from _ _ (sym c.if-exists.ensures) (sym c.comes_to.ensures ∙ is)),
      λ inside. c.comes_to.ensures ∙ (and_parts _ _ (same.1 inside)).1,
    )
