use Rattle.std.proofs.Common.{List, ◌++◌, ◌∷◌, [], take, get_or, false, sym, subst}
use Rattle.std.specs.List.{AllZip}
use Rattle.std.proofs.lemmas.List.{take_more}
use Rattle.mud_roads.specs.Passable.{Knowledge, knowledge_of}
use Rattle.mud_guide.specs.Legs.{Leg, IsLeg}
use Rattle.mud_guide.proofs.Backs.{read-at}
use Rattle.mud_guide.proofs.Gather.{allzip-push}
use Rattle.mud_guide.proofs.leg.legs_to.Goals as goal

pub loop-member-preserved : goal.loop-member-preserved
loop-member-preserved c =
    let nobody : Knowledge = knowledge_of 0 0 false ([], []) [] [] in
    let m = c.loop-member.member in
    let ts = c.args.travellers.now in
    let R : Knowledge → Leg → Type 0 = λ t j. IsLeg c.args.world.now c.args.to t.player j in
    let P : List Knowledge → Type 0 = λ xs. AllZip R xs c.push.new.self.items in
    let t = get_or ts m nobody in
    let new = c.in_ok-leg_to.field-0 in
    let Q : List Leg → Type 0 = λ ys. AllZip R (take m ts ++ t ∷ []) ys in
    subst P (sym (take_more ts m nobody c.loop-member-test.true))
    (subst Q (sym c.in_ok-push.ensures.items)
    (allzip-push R (take m ts) c.loop-member.legs.items t new c.loop-member.invariant
    (subst (λ (x : Knowledge). R x new)
    (sym (read-at ts m c.index-travellers-member.result nobody c.loop-member-test.true
    c.index-travellers-member.is)) c.in_ok-leg_to.ensures)))
