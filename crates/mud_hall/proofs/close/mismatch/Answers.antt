use Rattle.std.proofs.Common.{ℕ, List, Option, sym, subst}
use Rattle.mud_chron.specs.Entry.{Entry}
use Rattle.mud_hall.specs.Desk.{View}
use Rattle.mud_hall.specs.Settlement.{IsAtOdds}
use Rattle.mud_hall.specs.inner.CheckFaults.{IsLeast, Differs, IsUnnamed}
use Rattle.mud_hall.proofs.Least.{least_either}
use Rattle.mud_hall.proofs.close.mismatch.Goals as goal

pub returns-clause-least : goal.returns-clause-least
returns-clause-least g c =
    let ds : List View = c.args.desks.now in
    let first : ℕ = c.args.first in
    let es : List Entry = c.args.new.now in
    let Q : Option ℕ → Type 0 = λ a. IsLeast (IsAtOdds ds first es) a in
    let P : ℕ → Type 0 = Differs ds first es in
    let N : ℕ → Type 0 = IsUnnamed ds first es in
    let none : IsLeast N c.first_unnamed.result =
    subst (λ (l : List Entry). IsLeast (IsUnnamed ds first l) c.first_unnamed.result) c.first_difference.ensures.same
    c.first_unnamed.ensures.least in
    subst Q (sym c.lesser.ensures)
    (least_either P N c.first_difference.result c.first_unnamed.result c.first_difference.ensures.least none)
