use Rattle.std.proofs.Common.{◌≡◌, ◌+◌, ◌<◌, ◌++◌, ◌∷◌, [], ℕ, List, Option, Some, length, take, sym, ap, subst}
use Rattle.std.proofs.Common.{arith, refl, ◌∙◌}
use Rattle.std.proofs.lemmas.List.{take_all}
use Rattle.mud_hall.specs.Desk.{View}
use Rattle.mud_hall.specs.Settlement.{HasNumber, HaveSameNumber}
use Rattle.mud_hall.specs.inner.CheckFaults.{IsLeast, lesser_of}
use Rattle.mud_hall.proofs.Lists.{take_snoc}
use Rattle.mud_hall.proofs.Checks.{twice_more, twice_same}
use Rattle.mud_hall.proofs.close.same_number.Goals as goal
use Rattle.mud_hall.proofs.close.same_number.Goals.{then-has_number, else-has_number}

pub loop-j-preserved : goal.loop-j-preserved
loop-j-preserved g c =
    let all : List View = c.args.desks.now in
    let j : ℕ = c.loop-j.j in
    let ds : List View = take j all in
    let d : View = c.index-desks-j.result in
    let least = c.loop-j.least in
    let lt : j < length all = omega arith in
    let more : take (j + 1) all ≡ ds ++ d ∷ [] = take_snoc all j d d lt c.index-desks-j.is in
    let Q : List View → Type 0 = λ xs. IsLeast (HaveSameNumber xs) c.if-has_number.least in
    let R : Option ℕ → Type 0 = λ a. IsLeast (HaveSameNumber (ds ++ d ∷ [])) a in
    let own : c.number-number.result ≡ d.state.number = c.number-number.ensures in
    elim c.if-has_number.branch [
      | then-has_number w ↦
          let has : HasNumber ds d.state.number = subst (HasNumber ds) own (w.if-has_number.ensures.0 refl) in
          let is : c.if-has_number.least ≡ lesser_of least (Some d.state.number) =
          w.least-is ∙ (w.lesser-least.ensures ∙ ap (λ n. lesser_of least (Some n)) own) in
          subst Q (sym more) (subst R (sym is) (twice_more ds d least c.loop-j.invariant has))
      | else-has_number w ↦
          let none : HasNumber ds d.state.number → ⊥ =
          λ has. cc (w.if-has_number.ensures.1 (subst (HasNumber ds) (sym own) has)) in
          subst Q (sym more) (subst R (sym w.least-is) (twice_same ds d least c.loop-j.invariant none))
    ]

pub returns : goal.returns
returns g c =
    let Q : List View → Type 0 = λ ds. IsLeast (HaveSameNumber ds) c.loop-j.least in
    subst Q (take_all c.loop-j.j c.args.desks.now (omega arith)) c.loop-j.invariant
