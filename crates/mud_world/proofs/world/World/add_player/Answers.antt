use Rattle.std.proofs.Common.{List, ℕ, [], ◌∷◌, subst, sym, ap, ◌∙◌}
use Rattle.mud_world.specs.declared.record.Kind.TheVariants.{Player}
use Rattle.mud_world.specs.Legal.{new_record}
use Rattle.mud_world.specs.inner.CanGo.{CanAdd}
use Rattle.mud_world.proofs.Recycling.{CanAdd-player}
use Rattle.mud_world.proofs.world.World.add_player.Goals as goal

pub add-requires : goal.add-requires
add-requires c =
    subst (λ (v : List (List ℕ)). CanAdd c.args.self.now (new_record c.args.actor v (Player 0)))
    (sym (c.in_ok-names.ensures ∙ ap (λ n. n ∷ []) c.in_ok-copy.ensures))
    (CanAdd-player c.args.self.now c.know_sound.ensures c.args.actor c.args.name.now c.requires)
