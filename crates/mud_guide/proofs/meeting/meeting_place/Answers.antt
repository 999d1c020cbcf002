use Rattle.std.proofs.Common.{ℕ, length, subst}
use Rattle.std.specs.Prelude.{IfSome, IfNone}
use Rattle.mud_guide.specs.inner.Gatherings.{IsBest, NoneGather}
use Rattle.mud_search.specs.Least.{label_in}
use Rattle.mud_guide.proofs.Gather.{place-is, best-room, best-greatest}
use Rattle.mud_guide.proofs.meeting.meeting_place.Goals as goal

pub returns-clause-place : goal.returns-clause-place
returns-clause-place c =
    let labels = label_in c.args.labels.now in
    let ts = c.args.party.now in
    let S : ℕ → Type 0 = λ n. IfSome c.best.result (IsBest labels (length ts) n) in
    let N : ℕ → Type 0 = λ n. IfNone c.best.result (NoneGather labels (length ts) n) in
    place-is c.args.world.now ts labels c.requires.least c.next_number.ensures.sound c.requires.travellers
    c.requires.some c.best.result
    (subst S c.next_number.ensures.next c.best.ensures.some) (subst N c.next_number.ensures.next c.best.ensures.none)

pub returns-clause-room : goal.returns-clause-room
returns-clause-room c =
    let S : ℕ → Type 0 = λ n. IfSome c.best.result (IsBest (label_in c.args.labels.now) (length c.args.party.now) n) in
    best-room c.args.world.now c.args.party.now (label_in c.args.labels.now) c.requires.least
    c.next_number.ensures.sound c.requires.travellers c.requires.some c.best.result
    (subst S c.next_number.ensures.next c.best.ensures.some)

pub returns-clause-greatest : goal.returns-clause-greatest
returns-clause-greatest c =
    let S : ℕ → Type 0 = λ n. IfSome c.best.result (IsBest (label_in c.args.labels.now) (length c.args.party.now) n) in
    best-greatest (label_in c.args.labels.now) (length c.args.party.now) c.args.world.now.next c.best.result
    (subst S c.next_number.ensures.next c.best.ensures.some)
