use Rattle.std.proofs.Common.{◌≡◌, ◌≢◌, ℕ, ◌<◌, ◌≤◌, ◌-◌, get_or}
use Rattle.mud_nvt.specs.declared.codes.TheConstants.{LF}
use Rattle.mud_web.proofs.messages.last_end.Given as goal

abbrev pub invariant-loop-at : goal.invariant-loop-at
invariant-loop-at l = record {
  within : l.len ≤ l.at;
  ends : 0 < l.len → get_or l.bytes (l.len - 1) 0 ≡ LF;
  none : (k : ℕ) → l.len ≤ k → k < l.at → get_or l.bytes k 0 ≢ LF;
}
