use Rattle.std.proofs.Common.{◌<◌, length, ◌∙◌, arith, rules}
use Rattle.std.specs.Cow.{cow_str_bytes}
use Rattle.mud_words.proofs.PlaceLemmas.{room_is, after_place, boundary_after}
use Rattle.mud_words.proofs.split.words_after.Goals as goal

pub range_from-requires : goal.range_from-requires
range_from-requires c =
    let is = c.requires.joined c.if-joined.true in
    let some : c.args.place < length c.args.words.now = search rules in
    let room =
    room_is cow_str_bytes c.args.words.now c.args.text.now c.args.place c.room_for.result (omega arith) is (omega arith)
    c.room_for.ensures in
    boundary_after cow_str_bytes c.args.words.now _ c.args.place _ c.utf8.text some is room

pub returns-then-after-gt1 : goal.returns-then-after-gt1
returns-then-after-gt1 c =
    let is = c.requires.joined c.if-joined.true in
    let some : c.args.place < length c.args.words.now = search rules in
    let room =
    room_is cow_str_bytes c.args.words.now c.args.text.now c.args.place c.room_for.result (omega arith) is (omega arith)
    c.room_for.ensures in
    c.range_from.ensures.value
    ∙ (after_place cow_str_bytes c.args.words.now c.args.text.now c.args.place _ some is room).0
