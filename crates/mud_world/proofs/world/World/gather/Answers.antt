use Rattle.std.proofs.Common.{ap, ◌∙◌, refl, arith, length, ◌<◌, get_or, ◌++◌}
use Rattle.std.proofs.lemmas.Option.{slice_get_read}
use Rattle.mud_world.proofs.Carrying.{gathers-all}
use Rattle.mud_world.proofs.Marking.{gathered-on}
use Rattle.mud_world.proofs.world.World.gather.Goals as goal

pub returns-in-None : goal.returns-in-None
returns-in-None c =
    gathers-all c.args.self.now c.know_sound.ensures c.args.candidate c.loop-i.found.items c.loop-i.i c.loop-i.invariant
    (omega (arith, c.in-None.ensures.lookup.3, ap length c.deref.ensures.0))

pub loop-i-preserved : goal.loop-i-preserved
loop-i-preserved c =
    let keys = c.loop-i.found.items in
    let at = c.in-Some.at.now in
    let low : c.loop-i.i < length keys = omega (arith, c.in-Some.ensures.lookup.3.0, ap length c.deref.ensures.0) in
    gathered-on c.args.self.now c.know_sound.ensures c.args.candidate keys _ c.loop-i.i at c.loop-i.invariant
    (slice_get_read keys (length keys) c.loop-i.i at refl low
    (c.in-Some.ensures.lookup.1 ∙ ap (λ v. get_or v c.loop-i.i at) c.deref.ensures.0))
    low
    (c.in_ok-push_all-in-Some.ensures ∙ ap (λ v. keys ++ v) c.contents-inner.ensures)
