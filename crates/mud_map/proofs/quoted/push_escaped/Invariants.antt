use Rattle.std.proofs.Common.{◌≡◌, ◌++◌, take}
use Rattle.mud_map.specs.Quotes.{escape}
use Rattle.mud_map.proofs.quoted.push_escaped.Given as goal

abbrev pub invariant-loop-byte : goal.invariant-loop-byte
invariant-loop-byte l = l.out.items ≡ l.fn.out.items ++ escape (take l.byte-index l.text)
