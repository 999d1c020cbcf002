use Rattle.std.proofs.Common.{◌≡◌, ℕ, List, Some, slice_get, sym, ap, ◌∙◌, subst, arith, refl}
use Rattle.std.specs.Prelude.{All}
use Rattle.std.proofs.lemmas.List.{take_all}
use Rattle.std.proofs.lemmas.Option.{get_or_from_slice_get, slice_get_within}
use Rattle.mud_chron.specs.Entry.{Entry}
use Rattle.mud_hall.specs.Desk.{View}
use Rattle.mud_hall.specs.Settlement.{HasNumber}
use Rattle.mud_hall.proofs.Lists.{all_snoc}
use Rattle.mud_hall.proofs.Checks.{unnamed_here, unnamed_none}
use Rattle.mud_hall.proofs.close.first_unnamed.Goals as goal

pub loop-i-preserved : goal.loop-i-preserved
loop-i-preserved g c =
    let ds : List View = c.args.desks.now in
    let es : List Entry = c.args.new.now in
    let i : ℕ = c.loop-i.i in
    let e : Entry = c.desk.ensures.desk.0 in
    let at : slice_get es i ≡ Some e =
    sym (ap (λ (l : List Entry). slice_get l i) c.loop-i.invariant.same) ∙ c.desk.ensures.desk.1 in
    let P : Entry → Type 0 = λ x. HasNumber ds x.desk in
    let has : P e = subst (HasNumber ds) c.desk.ensures.desk.2 (c.if-not-has_number.ensures.0 refl) in
    record {
      same = c.desk.ensures.same ∙ c.loop-i.invariant.same;
      all = all_snoc P es i e e c.loop-i.invariant.all (slice_get_within es i e at)
          (sym (get_or_from_slice_get es i e e at)) has;
    }

pub returns-then-not-has_number-clause-least : goal.returns-then-not-has_number-clause-least
returns-then-not-has_number-clause-least g c =
    let ds : List View = c.args.desks.now in
    let es : List Entry = c.args.new.now in
    let i : ℕ = c.loop-i.i in
    let e : Entry = c.desk.ensures.desk.0 in
    let at : slice_get es i ≡ Some e =
    sym (ap (λ (l : List Entry). slice_get l i) c.loop-i.invariant.same) ∙ c.desk.ensures.desk.1 in
    let none : HasNumber ds e.desk → ⊥ =
    λ has. cc (c.if-not-has_number.ensures.1 (subst (HasNumber ds) (sym c.desk.ensures.desk.2) has)) in
    unnamed_here ds c.args.first i es e c.loop-i.invariant.all (slice_get_within es i e at)
    (sym (get_or_from_slice_get es i e e at)) none

pub returns-clause-least : goal.returns-clause-least
returns-clause-least g c =
    let ds : List View = c.args.desks.now in
    let es : List Entry = c.args.new.now in
    let Q : List Entry → Type 0 = λ xs. All (λ (x : Entry). HasNumber ds x.desk) xs in
    let all : Q es = subst Q (take_all c.loop-i.i es (omega arith)) c.loop-i.invariant.all in
    unnamed_none ds c.args.first es all
