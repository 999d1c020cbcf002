-- The rows of the code as those of the definitions.
use Rattle.mud_status.specs.declared.rows.Row.{Row as Given}
use Rattle.mud_status.specs.declared.metrics.Metric.{Metric as Found}
use Rattle.mud_status.specs.Status.{Row}
use Rattle.mud_status.specs.Metrics.{Metric}

abbrev pub line_of : Given → Row
line_of r = record { name = r.name.now; value = r.value }

abbrev pub metric_of : Found → Metric
metric_of m = record { name = m.name.now; kind = m.kind.now; help = m.help.now; value = m.value }
