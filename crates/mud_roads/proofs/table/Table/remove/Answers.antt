use Rattle.std.proofs.Common.{◌≡◌, ℕ, ◌<◌, Bool, true, false, cond, not, nat_eq, Some, None, List, length}
use Rattle.std.proofs.Common.{get_or, map, position, All, inl, inr, sym, ◌∙◌, ap, arith}
use Rattle.std.specs.List.{position_or_len}
use Rattle.std.specs.Vec.{with_items}
use Rattle.std.proofs.lemmas.Bool.{cases_lt, lt-ltb}
use Rattle.std.proofs.lemmas.List.{with_items_is}
use Rattle.std.proofs.lemmas.List.Quantifiers.{position-Some}
use Rattle.std.proofs.lemmas.List.Sums.{prefix_len_passes}
use Rattle.mud_roads.specs.declared.label.Step.{Step}
use Rattle.mud_roads.specs.inner.Tables.{is_apart, end_without}
use Rattle.mud_roads.proofs.Removing.{fit-removed, rows-removed, rows-kept}
use Rattle.mud_roads.proofs.table.Table.remove.Goals as goal

-- the step that was found is one of the exit
found : (exit i : ℕ) (steps read : List Step) (s : Step) → read ≡ steps
    → Some i ≡ position (λ t. nat_eq exit t.exit) read
    → (i < length steps) × (is_apart exit (get_or steps i s) ≡ false)
found exit i steps read s same is =
    let test = λ (t : Step). nat_eq exit t.exit in
    let at = position-Some test steps i s (ap (position test) (sym same) ∙ sym is) in
    (at.0, ap not at.1)

-- if none is found, no step is one of the exit
none_found : (exit : ℕ) (steps read : List Step) → read ≡ steps → None ≡ position (λ t. nat_eq exit t.exit) read
    → All (λ s. is_apart exit s ≡ true) steps
none_found exit steps read same is k d h =
    let test = λ (t : Step). nat_eq exit t.exit in
    let first = position_or_len test steps in
    elim (cases_lt first (length steps)) as (λ _. is_apart exit (get_or steps k d) ≡ true) [
      | inl before ↦
          let some : position test steps ≡ Some first =
          ap (λ (b : Bool). cond b (Some first) None) (lt-ltb first (length steps) before) in
          let none : None ≡ position test steps = is ∙ ap (position test) same in
          cc
      | inr past ↦ prefix_len_passes (is_apart exit) steps k d (omega (arith, h, past))
    ]

pub loop-index-preserved : goal.loop-index-preserved
loop-index-preserved c =
    let ends = c.loop-index.self-inside.ends in
    let steps = c.loop-index.self-inside.steps.items in
    let i = c.in-Some.index in
    let at = found c.args.exit i steps c.deref.result.now c.remove.result c.deref.ensures.value c.in-Some.ensures in
    let less = c.remove.ensures.items in
    let now : (with_items ends c.lower.new.ends).items ≡ map (end_without i) ends.items =
    with_items_is ends c.lower.new.ends (omega (arith, c.deref_mut.ensures.len, c.lower.auto.ends))
    ∙ c.lower.ensures ∙ ap (map (end_without i)) c.deref_mut.ensures.value in
    record {
      fits = rw (now, less) (fit-removed i i 0 ends.items steps c.loop-index.invariant.fits (omega arith) at.0);
      same = rw (now, less) (rows-removed (is_apart c.args.exit) i i 0 ends.items steps c.remove.result
          c.loop-index.invariant.fits (omega arith) at.0 at.1 ∙ c.loop-index.invariant.same);
    }

pub returns : goal.returns
returns c =
    let ends = c.loop-index.self-inside.ends.items in
    let steps = c.loop-index.self-inside.steps.items in
    sym (rows-kept (is_apart c.args.exit) 0 ends steps
    (none_found c.args.exit steps c.deref.result.now c.deref.ensures.value c.in_default.ensures))
    ∙ c.loop-index.invariant.same
