use Rattle.std.proofs.Common.{arith}
use Rattle.mud_web.proofs.Hosts.{too_short, behind_decides, other_letters}
use Rattle.mud_web.proofs.host.is_behind.Goals as goal

pub returns-then-text-start : goal.returns-then-text-start
returns-then-text-start c =
    (λ h. absurd (cc h), λ behind. absurd (too_short c.args.start.now c.args.text.now (omega arith) behind))

pub returns-then-eq_ignore_ascii_case : goal.returns-then-eq_ignore_ascii_case
returns-then-eq_ignore_ascii_case c =
    behind_decides c.args.start.now c.args.text.now c.split_at.result.0.now c.split_at.result.1.now
    c.eq_ignore_ascii_case.result c.is_host.result c.split_at.ensures.front c.split_at.ensures.back
    c.eq_ignore_ascii_case.ensures.test c.if-eq_ignore_ascii_case.true c.is_host.ensures

pub returns-else-eq_ignore_ascii_case : goal.returns-else-eq_ignore_ascii_case
returns-else-eq_ignore_ascii_case c = (
  λ h. absurd (cc (h, c.if-eq_ignore_ascii_case.false)),
  λ behind. absurd (other_letters c.args.start.now
      c.args.text.now c.split_at.result.0.now c.eq_ignore_ascii_case.result c.split_at.ensures.front
      c.eq_ignore_ascii_case.ensures.test c.if-eq_ignore_ascii_case.false behind),
)
