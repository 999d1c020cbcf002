use Rattle.std.proofs.Common.{◌≡◌, ◌++◌, ◌∷◌, [], ℕ, List, Option, take, sym, ap, ◌∙◌, subst, arith}
use Rattle.std.proofs.lemmas.List.{take_all}
use Rattle.mud_chron.specs.Entry.{Entry}
use Rattle.mud_hall.specs.Desk.{View}
use Rattle.mud_hall.specs.Settlement.{first_apart, versions_by}
use Rattle.mud_hall.specs.inner.CheckFaults.{IsLeast, Differs, lesser_of}
use Rattle.mud_hall.proofs.Lists.{take_snoc}
use Rattle.mud_hall.proofs.Apart.{differs_more}
use Rattle.mud_hall.proofs.close.first_difference.Goals as goal

pub loop-desk-preserved : goal.loop-desk-preserved
loop-desk-preserved g c =
    let i : ℕ = c.loop-desk.desk-index in
    let ds : List View = take i c.args.desks.now in
    let d : View = c.desk-item.result in
    let first : ℕ = c.args.first in
    let es : List Entry = c.args.new.now in
    let Q : List View → Type 0 = λ xs. IsLeast (Differs xs first es) c.lesser-least.result in
    let R : Option ℕ → Type 0 = λ a. IsLeast (Differs (ds ++ d ∷ []) first es) a in
    let here : Option ℕ = c.differs.result in
    let first_of : here ≡ first_apart d.state.calls (versions_by d.state.number first es) =
    c.differs.ensures.first
    ∙ ap (λ (l : List Entry). first_apart d.state.calls (versions_by d.state.number first l))
    c.loop-desk.invariant.same in
    let more : IsLeast (Differs (ds ++ d ∷ []) first es) (lesser_of c.loop-desk.least here) =
    differs_more ds d first es c.loop-desk.least here c.loop-desk.invariant.least first_of in
    record {
      same = c.differs.ensures.same ∙ c.loop-desk.invariant.same;
      least = subst Q (sym (take_snoc c.args.desks.now i d d (omega arith) c.desk-item.is))
          (subst R (sym c.lesser-least.ensures) more);
    }

pub returns-clause-least : goal.returns-clause-least
returns-clause-least g c =
    let Q : List View → Type 0 = λ xs. IsLeast (Differs xs c.args.first c.args.new.now) c.loop-desk.least in
    subst Q (take_all c.loop-desk.desk-index c.args.desks.now (omega arith)) c.loop-desk.invariant.least
