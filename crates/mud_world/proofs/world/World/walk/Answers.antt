use Rattle.std.proofs.Common.{ap, sym, ◌∙◌}
use Rattle.std.specs.Option.{option_map, option_map_or}
use Rattle.mud_world.specs.inner.Fields.{with_place}
use Rattle.mud_world.proofs.Going.{moved-same, CanGo-walk}
use Rattle.mud_world.proofs.world.World.walk.Goals as goal

pub returns-then-from-passage-clause-ok : goal.returns-then-from-passage-clause-ok
returns-then-from-passage-clause-ok c =
    let w = c.args.self.now in
    let a = c.args.actor in
    sym
    (ap (λ v. option_map_or (with_place w a) (option_map (λ p. p.destination) v) w) (sym c.in-Some-Some.ensures')
    ∙ ap (with_place w a) (sym c.if-from-passage.true)
    ∙ moved-same w a c.in-Some-Some.from (sym c.in-Some-Some.ensures))

pub relocate-requires : goal.relocate-requires
relocate-requires c =
    CanGo-walk c.args.self.now c.know_sound.ensures c.args.actor c.args.exit c.requires _ _ (sym c.in-Some-Some.ensures)
    (ap (option_map (λ p. p.destination)) (sym c.in-Some-Some.ensures')) c.if-from-passage.false
