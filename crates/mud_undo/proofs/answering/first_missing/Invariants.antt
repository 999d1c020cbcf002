use Rattle.std.proofs.Common.{◌≤◌, take}
use Rattle.std.specs.Prelude.{All}
use Rattle.mud_undo.proofs.answering.first_missing.Given as goal

-- the versions so far are those of changes
abbrev pub invariant-loop-version : goal.invariant-loop-version
invariant-loop-version l = All (λ v. (1 ≤ v) × (v ≤ l.count)) (take l.version-index l.versions)
