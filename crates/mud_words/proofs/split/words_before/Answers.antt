use Rattle.std.proofs.Common.{◌≡◌, ℕ, ◌-◌, take, ap, ◌∙◌, arith}
use Rattle.std.specs.Cow.{cow_str_bytes}
use Rattle.mud_words.proofs.PlaceLemmas.{room_is, before_place, boundary_before}
use Rattle.mud_words.proofs.split.words_before.Goals as goal

pub range-requires-clause-end_boundary : goal.range-requires-clause-end_boundary
range-requires-clause-end_boundary c =
    let is = c.requires.joined c.if-joined.true in
    let room =
    room_is cow_str_bytes c.args.words.now c.args.text.now c.args.place c.room_for.result (omega arith) is (omega arith)
    c.room_for.ensures in
    boundary_before _ _ _
    (before_place cow_str_bytes c.args.words.now _ c.args.place _ (omega arith) (omega arith) is room)

pub returns-then-place-gt1 : goal.returns-then-place-gt1
returns-then-place-gt1 c =
    let is = c.requires.joined c.if-joined.true in
    let room =
    room_is cow_str_bytes c.args.words.now c.args.text.now c.args.place c.room_for.result (omega arith) is (omega arith)
    c.room_for.ensures in
    let e =
    before_place cow_str_bytes c.args.words.now c.args.text.now c.args.place _ (omega arith) (omega arith) is room in
    let end : c.room_for.result - 1 - 0 ≡ c.room_for.result - 1 = omega arith in
    c.range.ensures.value ∙ ap (λ (n : ℕ). take n c.args.text.now) end ∙ e.is
