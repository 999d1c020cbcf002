-- The output of a session.
use Rattle.std.proofs.Common.{◌≡◌, ℕ, List, [], ◌++◌, sym, ap, append_assoc}
use Rattle.std.proofs.lemmas.List.{append-nil}
use Rattle.mud_session.specs.State.{SessionState}
use Rattle.mud_session.specs.inner.TurnTexts.{sends}

abbrev with_out : SessionState → List ℕ → SessionState
with_out s out = record { terminal = s.terminal; has_ended = s.has_ended; out = out }

pub sends_none : (s : SessionState) → s ≡ sends s []
sends_none s = ap (with_out s) (sym (append-nil s.out))

pub sends_twice : (s : SessionState) (a b : List ℕ) → sends (sends s a) b ≡ sends s (a ++ b)
sends_twice s a b = ap (with_out s) (append_assoc s.out a b)
