use Rattle.std.proofs.Common.{◌≡◌, ◌++◌, length}
use Rattle.mud_checker.specs.Finding.{without_returns}
use Rattle.mud_checker.proofs.line_ends.without_returns.Given as goal

-- the bytes kept so far, and those to keep of the rest
abbrev pub invariant-loop-rest : goal.invariant-loop-rest
invariant-loop-rest l = l.kept.items ++ without_returns l.rest ≡ without_returns l.fn.bytes

abbrev pub decreases-loop-rest : goal.decreases-loop-rest
decreases-loop-rest l = length l.rest
