use Rattle.std.proofs.Common.{◌≡◌, ◌<◌, ◌∙◌, ◌++◌, ℕ, List, ap, length, arith, append_assoc}
use Rattle.std.proofs.lemmas.Bool.Decides.{nat_tests}
use Rattle.std.proofs.lemmas.Str.{IsAscii-take, IsAscii-drop}
use Rattle.mud_web.specs.Sending.{frame_of}
use Rattle.mud_web.proofs.Sending.{one_more, none_more}
use Rattle.mud_web.proofs.channel.Channel.send_messages.Goals as goal

pub send_message-requires-clause-ascii : goal.send_message-requires-clause-ascii
send_message-requires-clause-ascii c = rw c.split_at.ensures.front (IsAscii-take _ _ c.loop-rest.invariant.ascii)

pub send_message-requires-clause-some : goal.send_message-requires-clause-some
send_message-requires-clause-some c =
    let any : 0 < length c.loop-rest.rest.now = grind (arith, nat_tests) in
    omega (arith, c.split_at.ensures.front_len, c.message_len.ensures.some)

pub loop-rest-smaller : goal.loop-rest-smaller
loop-rest-smaller c =
    let any : 0 < length c.loop-rest.rest.now = grind (arith, nat_tests) in
    omega (arith, c.split_at.ensures.back_len, c.message_len.ensures.some)

pub loop-rest-preserved : goal.loop-rest-preserved
loop-rest-preserved c =
    let any : 0 < length c.loop-rest.rest.now = grind (arith, nat_tests) in
    record {
      ascii = rw c.split_at.ensures.back (IsAscii-drop _ _ c.loop-rest.invariant.ascii);
      same = c.send_message.ensures.same ∙ c.loop-rest.invariant.same;
      front = (
        c.loop-rest.invariant.front.0 ++ frame_of c.split_at.result.0.now,
        c.in_ok-send_message.ensures.ok
            ∙ (ap (λ (xs : List ℕ). xs ++ frame_of c.split_at.result.0.now) c.loop-rest.invariant.front.1
            ∙ append_assoc c.args.out.now.items c.loop-rest.invariant.front.0 (frame_of c.split_at.result.0.now)),
      );
      sent = one_more c.loop-rest.out.items c.send_message.new.out.items c.loop-rest.rest.now c.split_at.result.0.now
          c.split_at.result.1.now c.message_len.result c.message_len.ensures.value any c.split_at.ensures.front
          c.split_at.ensures.back c.in_ok-send_message.ensures.ok ∙ c.loop-rest.invariant.sent;
    }

pub returns-clause-ok : goal.returns-clause-ok
returns-clause-ok c =
    let none : length c.loop-rest.rest.now ≡ 0 = grind (arith, nat_tests) in
    none_more c.loop-rest.out.items c.args.out.now.items c.args.text.now c.loop-rest.rest.now none
    c.loop-rest.invariant.sent
