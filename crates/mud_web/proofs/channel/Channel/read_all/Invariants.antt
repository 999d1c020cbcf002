use Rattle.mud_web.proofs.Runs.{Keeps}
use Rattle.mud_web.proofs.channel.Channel.read_all.Given as goal

abbrev pub invariant-loop : goal.invariant-loop
invariant-loop l = Keeps l.fn.self l.bytes l.self l.fn.typed.items l.typed.items l.fn.replies.items l.replies.items
