use Rattle.std.proofs.Common.{◌≡◌, ℕ, ◌+◌, ◌-◌, ◌^◌, ◌<◌, ◌≤◌, List, [], ◌∷◌, ◌++◌, length, get_or, set, ◌∙◌, ap, arith}
use Rattle.std.specs.Prelude.{insert}
use Rattle.std.specs.Vec.{with_items}
use Rattle.std.proofs.lemmas.List.{get_or_read, with_items_is}
use Rattle.std.proofs.lemmas.List.Elements.{All-same, All-weaker}
use Rattle.mud_roads.specs.declared.label.Step.{Step}
use Rattle.mud_roads.specs.inner.Tables.{rows}
use Rattle.mud_roads.proofs.Rows.{rows-count, row-within, ends-within, raised, rows-one_more, fit-one_more}
use Rattle.mud_roads.proofs.table.Table.add.Goals as goal

-- the room has a row
in_table : (ends : List ℕ) (steps : List Step) (roads : List (List Step)) (room : ℕ) → rows 0 ends steps ≡ roads
    → room < length roads → room < length ends
in_table ends steps roads room is h = omega (arith, ap length is, rows-count 0 ends steps, h)

pub index-end-requires : goal.index-end-requires
index-end-requires c =
    omega (
      arith,
      in_table c.self.inside.ends.items c.self.inside.steps.items c.args.self.now c.args.room c.self.view_is
          c.requires,
    )

pub insert-requires : goal.insert-requires
insert-requires c =
    let ends = c.self.inside.ends.items in
    let steps = c.self.inside.steps.items in
    let h = in_table ends steps c.args.self.now c.args.room c.self.view_is c.requires in
    let at = get_or_read ends c.args.room c.index-end.result.now h c.index-end.ensures 0 in
    omega (arith, at, (row-within 0 ends steps c.self.invariant c.args.room h).2)

pub raise_from-requires-clause-within : goal.raise_from-requires-clause-within
raise_from-requires-clause-within c =
    let h = in_table c.self.inside.ends.items c.self.inside.steps.items c.args.self.now c.args.room c.self.view_is
    c.requires in
    omega (arith, h, ap length c.deref_mut.ensures.value)

pub raise_from-requires-clause-bounded : goal.raise_from-requires-clause-bounded
raise_from-requires-clause-bounded c =
    let ends = c.self.inside.ends.items in
    let steps = c.self.inside.steps in
    All-same (λ (end : ℕ). end < 2 ^ 63) c.deref_mut.result.now ends c.deref_mut.ensures.value
    (All-weaker (λ (end : ℕ). end ≤ 0 + length steps.items) (λ (end : ℕ). end < 2 ^ 63)
    (λ end le. omega (arith, le, steps.ok.0, steps.ok.1, steps.small)) ends
    (ends-within 0 ends steps.items c.self.invariant))

-- the ends and the steps after the call
fields : (ends read shifted ends-now : List ℕ) (steps steps-now : List Step) (room end : ℕ) (step : Step)
    → read ≡ ends → shifted ≡ raised room read → ends-now ≡ shifted
    → room < length ends → end ≡ get_or ends room end → steps-now ≡ insert steps end step
    → (ends-now ≡ raised room ends) × (steps-now ≡ insert steps (get_or ends room 0 - 0) step)
fields ends read shifted ends-now steps steps-now room end step same moved now h to more =
    let at : end ≡ get_or ends room 0 - 0 = omega (arith, get_or_read ends room end h to 0) in
    (now ∙ moved ∙ ap (raised room) same, more ∙ ap (λ (i : ℕ). insert steps i step) at)

pub invariant_of-self-2 : goal.invariant_of-self-2
invariant_of-self-2 c =
    let ends = c.self.inside.ends in
    let steps = c.self.inside.steps.items in
    let h = in_table ends.items steps c.args.self.now c.args.room c.self.view_is c.requires in
    let now = fields ends.items c.deref_mut.result.now c.raise_from.new.ends
    (with_items ends c.raise_from.new.ends).items steps c.insert.new.self.items c.args.room c.index-end.result.now
    c.args.step c.deref_mut.ensures.value c.raise_from.ensures
    (with_items_is ends c.raise_from.new.ends (omega (arith, c.deref_mut.ensures.len, c.raise_from.auto.ends)))
    h c.index-end.ensures c.in_ok-insert.ensures.items in
    rw (now.0, now.1) (fit-one_more 0 ends.items steps c.self.invariant c.args.room h c.args.step)

pub returns-clause-ok : goal.returns-clause-ok
returns-clause-ok c =
    let ends = c.self.inside.ends in
    let steps = c.self.inside.steps.items in
    let h = in_table ends.items steps c.args.self.now c.args.room c.self.view_is c.requires in
    let now = fields ends.items c.deref_mut.result.now c.raise_from.new.ends
    (with_items ends c.raise_from.new.ends).items steps c.insert.new.self.items c.args.room c.index-end.result.now
    c.args.step c.deref_mut.ensures.value c.raise_from.ensures
    (with_items_is ends c.raise_from.new.ends (omega (arith, c.deref_mut.ensures.len, c.raise_from.auto.ends)))
    h c.index-end.ensures c.in_ok-insert.ensures.items in
    rw (now.0, now.1) (rows-one_more 0 ends.items steps c.self.invariant c.args.room h c.args.step
    ∙ ap (λ (rs : List (List Step)). set rs c.args.room (get_or rs c.args.room [] ++ c.args.step ∷ [])) c.self.view_is)
