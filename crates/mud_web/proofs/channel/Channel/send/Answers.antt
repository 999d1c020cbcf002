use Rattle.std.proofs.Common.{◌≡◌, length, arith}
use Rattle.std.proofs.lemmas.Bool.Decides.{nat_tests}
use Rattle.mud_web.proofs.Sending.{no_text}
use Rattle.mud_web.proofs.channel.Channel.send.Goals as goal

pub returns-then-is_empty-clause-ok : goal.returns-then-is_empty-clause-ok
returns-then-is_empty-clause-ok c =
    let none : length c.args.text.now ≡ 0 = grind (arith, nat_tests) in
    no_text c.args.out.now.items c.args.text.now none
