use Rattle.std.proofs.Common.{refl}
use Rattle.mud_status.proofs.metrics.server_metrics_of.Goals as goal

pub returns : goal.returns
returns c =
    rw (
      c.gauge.ensures,
      c.gauge-2.ensures,
      c.gauge-3.ensures,
      c.gauge-4.ensures,
      c.gauge-5.ensures,
      c.gauge-6.ensures,
      c.gauge-7.ensures,
      c.as_number-well.ensures,
    )
    refl
