use Rattle.std.proofs.lemmas.Str.{IsUtf8-from_ascii}
use Rattle.mud_web.proofs.channel.Channel.send_message.Goals as goal

pub returns-in_default-clause-text : goal.returns-in_default-clause-text
returns-in_default-clause-text c =
    absurd (c.in_default.ensures.cases.0 (IsUtf8-from_ascii c.args.text.now c.requires.ascii))
