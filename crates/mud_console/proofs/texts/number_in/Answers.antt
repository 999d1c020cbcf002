use Rattle.std.proofs.Common.{◌≢◌, ◌∙◌, get_or, arith}
use Rattle.std.proofs.lemmas.Grind.{common_steps}
use Rattle.std.proofs.lemmas.Str.Parse.{parse_plain}
use Rattle.mud_console.proofs.Numbers.{own, number_is}
use Rattle.mud_console.proofs.texts.number_in.Goals.{else-not-is_empty-via-then-not-is_empty+else-bytes-eq43}
use Rattle.mud_console.proofs.texts.number_in.Goals.{else-not-is_empty-via-else-not-is_empty}
use Rattle.mud_console.proofs.texts.number_in.Goals as goal

pub returns : goal.returns
returns c =
    let same = c.as_bytes-bytes.ensures.value in
    let plain : get_or c.args.digits.now 0 0 ≢ 43 =
    elim c.else-not-is_empty.branch [
      | else-not-is_empty-via-then-not-is_empty+else-bytes-eq43 w ↦
          grind (arith, common_steps, same, w.if-bytes-eq43.false)
      | else-not-is_empty-via-else-not-is_empty w ↦
          grind (arith, common_steps, same, c.is_empty.ensures, w.if-not-is_empty.false)
    ] in
    c.ok.ensures.value
    ∙ number_is c.args.digits.now c.parse.result
    (parse_plain own 32 c.args.digits.now c.parse.result c.parse.ensures.value.0 plain)
