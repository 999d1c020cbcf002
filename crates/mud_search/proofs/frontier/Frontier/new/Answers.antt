use Rattle.std.proofs.Common.{◌≡◌, ℕ, List, map, take, ap, sym, subst, ◌∙◌, arith}
use Rattle.std.specs.Prelude.{All}
use Rattle.mud_roads.specs.Passable.{IsTraveller}
use Rattle.std.proofs.lemmas.List.{take_all}
use Rattle.mud_world.specs.Sound.{IsSound}
use Rattle.mud_search.specs.declared.slot.Slot.{Slot}
use Rattle.mud_search.specs.Tasks.{IsBegun}
use Rattle.mud_search.specs.Memory.{IsKept}
use Rattle.mud_search.specs.inner.Boards.{slot_of, begun_at}
use Rattle.mud_search.proofs.Frontiers.{begun, frontier-begun, begun-is}
use Rattle.mud_search.proofs.Inside.{member-within}
use Rattle.mud_search.proofs.frontier.Frontier.new.Given.{Over}
use Rattle.mud_search.proofs.frontier.Frontier.new.Goals.{After-loop-traveller}
use Rattle.mud_search.proofs.frontier.Frontier.new.Goals as goal

-- the boards are those of the beginning
boards_begun : (g : Over) (c : After-loop-traveller g)
    → c.loop-traveller.boards.items ≡ begun g.J.Job.world.next g.J.Job.travellers
boards_begun g c =
    let w = g.J.Job.world in
    let ts = g.J.Job.travellers in
    let all : take c.loop-traveller.traveller-index c.args.travellers.now ≡ ts =
    take_all c.loop-traveller.traveller-index c.args.travellers.now (omega arith) ∙ c.requires.travellers in
    let rooms : c.next_number-rooms.result ≡ w.next =
    c.next_number-rooms.ensures.next ∙ ap (λ x. x.next) c.requires.world in
    c.loop-traveller.invariant
    ∙ ap (map (begun_at c.next_number-rooms.result)) all ∙ ap (λ (n : ℕ). map (begun_at n) ts) rooms

pub invariant_of-result : goal.invariant_of-result
invariant_of-result g c =
    let w = g.J.Job.world in
    let ts = g.J.Job.travellers in
    let P : List (List Slot) → Type 0 = λ bs. IsKept w ts bs in
    subst P (sym (boards_begun g (goal.at.invariant_of-result g c).After-loop-traveller))
    (frontier-begun w ts (subst IsSound c.requires.world c.next_number-rooms.ensures.sound)
    c.requires.these c.requires.few)

pub returns : goal.returns
returns g c =
    let w = g.J.Job.world in
    let ts = g.J.Job.travellers in
    let P : List (List Slot) → Type 0 = λ bs. IsBegun ts (slot_of bs) in
    subst P (sym (boards_begun g (goal.at.returns g c).After-loop-traveller))
    (begun-is w ts (subst IsSound c.requires.world c.next_number-rooms.ensures.sound) c.requires.these)

pub start-requires : goal.start-requires
start-requires g c =
    let w = g.J.Job.world in
    let rooms : c.next_number-rooms.result ≡ w.next =
    c.next_number-rooms.ensures.next ∙ ap (λ x. x.next) c.requires.world in
    let sound : IsSound w = subst IsSound c.requires.world c.next_number-rooms.ensures.sound in
    let within = member-within w c.args.travellers.now sound
    (subst (All (IsTraveller w)) (sym c.requires.travellers) c.requires.these)
    c.loop-traveller.traveller-index c.traveller-item.result (omega arith) c.traveller-item.is in
    omega (arith, rooms, within, c.place.ensures)
