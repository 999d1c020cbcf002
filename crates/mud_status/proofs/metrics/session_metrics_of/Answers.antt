use Rattle.std.proofs.Common.{refl}
use Rattle.mud_status.proofs.metrics.session_metrics_of.Goals as goal

pub returns : goal.returns
returns c =
    rw (
      c.gauge.ensures,
      c.gauge-2.ensures,
      c.gauge-3.ensures,
      c.counter.ensures,
      c.counter-2.ensures,
      c.counter-3.ensures,
      c.counter-4.ensures,
    )
    refl
