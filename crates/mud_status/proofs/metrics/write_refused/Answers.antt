use Rattle.std.proofs.Common.{append_assoc}
use Rattle.mud_status.proofs.Written.{then_ok}
use Rattle.mud_status.proofs.metrics.write_refused.Goals as goal

pub returns : goal.returns
returns c =
    then_ok c.writeln.result _ _ _ c.writeln.ensures.bytes
    (rw (c.in_ok-push_str-3.ensures.bytes, c.in_ok-push_str-2.ensures.bytes, c.in_ok-push_str.ensures.bytes)
    (simp append_assoc))
