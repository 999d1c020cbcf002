use Rattle.std.proofs.Common.{codes, string_bytes}
use Rattle.mud_checker.proofs.Pushing.{both}
use Rattle.mud_checker.proofs.outcome.push_finding.Goals as goal

pub returns-in_ok-push_str-in-BadHistory : goal.returns-in_ok-push_str-in-BadHistory
returns-in_ok-push_str-in-BadHistory c =
    rw c.in-BadHistory.is
    (both c.push_fault.result (string_bytes c.args.out.now) _ (string_bytes c.push_fault.new.out)
    (codes "unreadable: ") _ c.in_ok-push_str-in-BadHistory.ensures.bytes c.push_fault.ensures)
