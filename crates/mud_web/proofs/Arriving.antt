-- A message types the text that the other side sent.
use Rattle.std.proofs.Common.{Some, refl, ap, arith}
use Rattle.websocket.specs.Content.{text}
use Rattle.websocket.proofs.RoundTripLemmas.{read_step_written}
use Rattle.mud_web.specs.Channel.{new_connection, typed_by}
use Rattle.mud_web.specs.Laws.{MessagesType}

pub messages_type : MessagesType
messages_type bs key rest valid fits mask =
    let read =
    read_step_written new_connection (text bs) (Some key) rest refl refl refl mask valid tt fits fits
    (omega (arith, fits)) in
    (read.0, read.1, ap typed_by read.2)
