use Rattle.std.proofs.Common.{◌≡◌, ◌++◌}
use Rattle.std.specs.Prelude.{string_bytes, codes}
use Rattle.std.proofs.lemmas.Result.{on_ok_weaker}
use Rattle.mud_chron.specs.Text.{line_feed}
use Rattle.mud_survey.specs.Table.{title}
use Rattle.mud_survey.proofs.Writing.{piece, pieces, last}
use Rattle.mud_survey.proofs.table.push_stranded.Goals as goal

pub returns : goal.returns
returns c =
    let w = c.args.world.now in
    let start = string_bytes c.args.out.now in
    let first = string_bytes c.push_words.new.out in
    let second = string_bytes c.push_words-2.new.out in
    let end = string_bytes c.push_str.new.self in
    let room = title w c.args.stranded.room in
    let player = title w c.args.stranded.player in
    let from = codes "no way back to #0 from room " in
    let to = codes " for player " in
    on_ok_weaker {P = end ≡ second ++ line_feed} c.push_str.result
    (piece start second (from ++ room ++ to ++ player) line_feed end
    (pieces start first (from ++ room) to player second c.in_ok-push_words.ensures c.in_ok-push_words-2.ensures))
    (last c.push_str.result end (second ++ line_feed) second c.push_str.ensures.bytes)
