use Rattle.std.proofs.Common.{append_assoc}
use Rattle.mud_status.proofs.metrics.metrics_text.Goals as goal

pub returns : goal.returns
returns c =
    rw (
      c.in_ok-write_refused-5.ensures,
      c.in_ok-write_refused-4.ensures,
      c.in_ok-write_refused-3.ensures,
      c.in_ok-write_refused-2.ensures,
      c.in_ok-write_refused.ensures,
      c.in_ok-write_about-2.ensures,
      c.in_ok-write_metrics-3.ensures,
      c.in_ok-write_metrics-2.ensures,
      c.in_ok-write_metrics.ensures,
      c.in_ok-push_str-3.ensures.bytes,
      c.in_ok-push_str-2.ensures.bytes,
      c.in_ok-push_str.ensures.bytes,
      c.in_ok-write_about.ensures,
      c.new-text.ensures.bytes,
      c.server_metrics_of.ensures,
      c.session_metrics_of.ensures,
      c.volume_metrics_of.ensures,
    )
    (simp append_assoc)
