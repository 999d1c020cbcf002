use Rattle.std.proofs.Common.{◌≡◌, ℕ, ◌-◌, ◌<◌, ◌≤◌, List, [], ◌∷◌, length, get_or, take, drop, sym, ◌∙◌, ap, arith}
use Rattle.std.proofs.lemmas.List.{get_or_past, get_or_read}
use Rattle.mud_roads.specs.declared.label.Step.{Step}
use Rattle.mud_roads.specs.inner.Tables.{rows}
use Rattle.mud_roads.proofs.Rows.{rows-count, row-within, row-part, begin}
use Rattle.mud_roads.proofs.table.Table.row.Goals as goal

-- the indices at which the row begins and ends
places : (ends read : List ℕ) (number begins ends_at : ℕ) → read ≡ ends → begins ≡ get_or (0 ∷ read) number 0
    → number < length ends → ends_at ≡ get_or ends number ends_at
    → (begins ≡ begin 0 ends number) × (ends_at ≡ get_or ends number 0)
places ends read number begins ends_at same from h to =
    (from ∙ ap (λ (es : List ℕ). get_or (0 ∷ es) number 0) same, get_or_read ends number ends_at h to 0)

pub part-requires-clause-rising : goal.part-requires-clause-rising
part-requires-clause-rising c =
    let ends = c.self.inside.ends.items in
    let h : c.args.number < length ends = omega (arith, c.if-at-len.true, c.len.ensures) in
    let at = places ends c.deref.result.now c.args.number c.begin_of-begin.result c.index-end.result.now
    c.deref.ensures.value c.begin_of-begin.ensures h c.index-end.ensures in
    let within = row-within 0 ends c.self.inside.steps.items c.self.invariant c.args.number h in
    omega (arith, at.0, at.1, within.1)

pub part-requires-clause-within : goal.part-requires-clause-within
part-requires-clause-within c =
    let ends = c.self.inside.ends.items in
    let h : c.args.number < length ends = omega (arith, c.if-at-len.true, c.len.ensures) in
    let at = places ends c.deref.result.now c.args.number c.begin_of-begin.result c.index-end.result.now
    c.deref.ensures.value c.begin_of-begin.ensures h c.index-end.ensures in
    let within = row-within 0 ends c.self.inside.steps.items c.self.invariant c.args.number h in
    let size = ap length c.deref-then-at-len.ensures.value in
    omega (arith, at.1, within.2, size)

pub returns-then-at-len : goal.returns-then-at-len
returns-then-at-len c =
    let ends = c.self.inside.ends.items in
    let steps = c.self.inside.steps.items in
    let h : c.args.number < length ends = omega (arith, c.if-at-len.true, c.len.ensures) in
    let at = places ends c.deref.result.now c.args.number c.begin_of-begin.result c.index-end.result.now
    c.deref.ensures.value c.begin_of-begin.ensures h c.index-end.ensures in
    let none : begin 0 ends c.args.number ≡ begin 0 ends c.args.number - 0 = omega arith in
    c.part.ensures
    ∙ ap (λ (ss : List Step). take (c.index-end.result.now - c.begin_of-begin.result) (drop c.begin_of-begin.result ss))
    c.deref-then-at-len.ensures.value
    ∙ ap (λ (n : ℕ). take (c.index-end.result.now - n) (drop n steps)) at.0
    ∙ ap (λ (n : ℕ). take (n - begin 0 ends c.args.number) (drop (begin 0 ends c.args.number) steps)) at.1
    ∙ ap (λ (n : ℕ). take (get_or ends c.args.number 0 - begin 0 ends c.args.number) (drop n steps)) none
    ∙ sym (row-part 0 ends steps c.self.invariant c.args.number h)
    ∙ ap (λ (rs : List (List Step)). get_or rs c.args.number []) c.self.view_is

pub returns-else-at-len : goal.returns-else-at-len
returns-else-at-len c =
    let past : length (rows 0 c.self.inside.ends.items c.self.inside.steps.items) ≤ c.args.number =
    omega (arith, c.if-at-len.false, c.len.ensures, rows-count 0 c.self.inside.ends.items c.self.inside.steps.items) in
    sym (ap (λ (rs : List (List Step)). get_or rs c.args.number []) (sym c.self.view_is)
    ∙ get_or_past (rows 0 c.self.inside.ends.items c.self.inside.steps.items) c.args.number [] past)
