use Rattle.std.proofs.Common.{◌≡◌, ℕ, ◌-◌, [], ◌∷◌, ◌++◌, List, get_or, ap, sym, ◌∙◌, arith, ⊎_elim}
use Rattle.std.specs.List.{filter_map, cons_option, range_with_len}
use Rattle.std.proofs.lemmas.Bool.{cases_lt}
use Rattle.std.proofs.lemmas.List.{append_assoc}
use Rattle.std.proofs.lemmas.List.Elements.{filter_map-append}
use Rattle.mud_roads.specs.declared.label.Step.{Step}
use Rattle.mud_roads.specs.inner.Growing.{step_from, is_marked}
use Rattle.mud_roads.proofs.Enlarging.{numbers-more}
use Rattle.mud_roads.proofs.access.Access.add_exits.Goals as goal

pub loop-number-preserved : goal.loop-number-preserved
loop-number-preserved c =
    let inv = c.loop-number.invariant in
    let low = c.args.from in
    let n = c.loop-number.number in
    let test = c.loop-number-test.true in
    let next = c.next_number-number-end.ensures.next in (
      omega (arith, inv.0),
      λ none. absurd (let at = inv.1 none in omega (arith, none, at, test, next)),
      c.in_ok-add_exit.ensures.count ∙ inv.2,
      λ room lt.
          let f = step_from c.args.world.now (is_marked c.args.self.now.marks.items) room in
          let was = get_or c.args.roads.now room [] in
          let before = filter_map f (range_with_len low (n - low)) in
          c.in_ok-add_exit.ensures.rows room (let size = inv.2 in omega (arith, lt, size))
          ∙ ap (λ (ss : List Step). ss ++ cons_option (f n) []) (inv.3 room lt)
          ∙ append_assoc was before (cons_option (f n) [])
          ∙ ap (λ (ss : List Step). was ++ ss) (sym (filter_map-append f (range_with_len low (n - low)) (n ∷ [])))
          ∙ ap (λ (ns : List ℕ). was ++ filter_map f ns) (sym (numbers-more low n inv.0)),
    )

pub returns-clause-rows : goal.returns-clause-rows
returns-clause-rows c = λ room lt.
    let inv = c.loop-number.invariant in
    let low = c.args.from in
    let n = c.loop-number.number in
    let test = c.loop-number-test.false in
    let next = c.next_number-number-end.ensures.next in
    let f = step_from c.args.world.now (is_marked c.args.self.now.marks.items) room in
    let all : n - low ≡ c.args.world.now.next - low =
    ⊎_elim
    (λ some. let end = c.loop-number.auto.number-end (omega (arith, some, next)) in omega (arith, end, test, next))
    (λ none. let at = inv.1 none in omega (arith, none, at))
    (cases_lt low c.args.world.now.next) in
    inv.3 room lt ∙ ap (λ (k : ℕ). get_or c.args.roads.now room [] ++ filter_map f (range_with_len low k)) all
