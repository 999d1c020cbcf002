use Rattle.std.proofs.Common.{◌≡◌, ◌++◌, take, map, flat_map, string_bytes}
use Rattle.mud_status.specs.Metrics.{metric_text}
use Rattle.mud_status.specs.inner.Rows.{metric_of}
use Rattle.mud_status.proofs.metrics.write_metrics.Given as goal

-- the metrics so far follow the old text
abbrev pub invariant-loop-metric : goal.invariant-loop-metric
invariant-loop-metric l =
    string_bytes l.text ≡ string_bytes l.fn.text ++ flat_map metric_text (map metric_of (take l.metric-index l.metrics))
