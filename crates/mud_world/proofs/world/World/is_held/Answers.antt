use Rattle.std.proofs.Common.{◌∙◌, [], ◌∷◌, false, not, ap, sym}
use Rattle.std.specs.Prelude.{nat_eq}
use Rattle.std.specs.Option.{option_map_or}
use Rattle.mud_world.specs.State.{is_taken}
use Rattle.mud_world.specs.inner.Maps.{state_of}
use Rattle.mud_world.proofs.Holders.{taken-one}
use Rattle.mud_world.proofs.world.World.is_held.Goals as goal

pub returns-in-Some : goal.returns-in-Some
returns-in-Some c =
    let n = c.args.number in
    let t = c.args.name.now in
    ap (λ v. option_map_or (λ m. not (nat_eq m n)) v false) (sym c.in-Some.is ∙ c.get.ensures)
    ∙ sym (taken-one (state_of c.self.inside) c.self.invariant.sound c.self.inside.owners c.self.invariant.names n t)
    ∙ ap (λ w. is_taken w n (t ∷ [])) c.self.view_is

pub returns-in-None : goal.returns-in-None
returns-in-None c =
    let n = c.args.number in
    let t = c.args.name.now in
    ap (λ v. option_map_or (λ m. not (nat_eq m n)) v false) (sym c.in-None.is ∙ c.get.ensures)
    ∙ sym (taken-one (state_of c.self.inside) c.self.invariant.sound c.self.inside.owners c.self.invariant.names n t)
    ∙ ap (λ w. is_taken w n (t ∷ [])) c.self.view_is
