use Rattle.std.proofs.Common.{◌≡◌, ◌++◌, List, ℕ, length}
use Rattle.std.specs.Str.{IsAscii}
use Rattle.mud_web.specs.Sending.{frames_of}
use Rattle.mud_web.proofs.channel.Channel.send_messages.Given as goal

abbrev pub invariant-loop-rest : goal.invariant-loop-rest
invariant-loop-rest l = record {
  ascii : IsAscii l.rest;
  same : l.self ≡ l.fn.self;
  front : (more : List ℕ) × (l.out.items ≡ l.fn.out.items ++ more);
  sent : l.out.items ++ frames_of l.rest ≡ l.fn.out.items ++ frames_of l.text;
}

abbrev pub decreases-loop-rest : goal.decreases-loop-rest
decreases-loop-rest l = length l.rest
