use Rattle.mud_lines.specs.inner.Typed.{IsTyped}
use Rattle.mud_lines.proofs.typist.typed.Given as goal

-- the lines so far are typed
abbrev pub invariant-loop-line : goal.invariant-loop-line
invariant-loop-line l = IsTyped l.typist
