use Rattle.std.proofs.Common.{rules}
use Rattle.mud_server_end.specs.Server.{IsServerFault}
use Rattle.mud_server_end.proofs.Written.{opened, any_err, end_of, none_written, front_written, line_written}
use Rattle.mud_server_end.proofs.Written.{part_written, all_written, whole_written}
use Rattle.mud_server_accept.proofs.listen.listen_on.Goals as goal

pub returns-in_err-hall-clause-front : goal.returns-in_err-hall-clause-front
returns-in_err-hall-clause-front g c = any_err c.from_residual.result (none_written _ _ _ _)

pub returns-in_err-hall-clause-fault : goal.returns-in_err-hall-clause-fault
returns-in_err-hall-clause-fault g c =
    let fault
    : IsServerFault c.args.limits.capacity c.args.loaded.items c.args.out.now c.args.out.now c.in_err-hall.field-0.0 =
    c.in_err-hall.ensures.fault c.args.out.now in
    search rules

pub returns-in_err-history-clause-fault : goal.returns-in_err-history-clause-fault
returns-in_err-history-clause-fault g c =
    let fault
    : IsServerFault c.args.limits.capacity c.args.loaded.items c.args.out.now c.write_ports.new.out
    c.in_err-history.field-0.0 =
    c.in_err-history.ensures.fault c.args.limits.capacity c.args.loaded.items c.args.out.now c.write_ports.new.out in
    search rules

pub returns-in_err-ports-clause-front : goal.returns-in_err-ports-clause-front
returns-in_err-ports-clause-front g c = any_err c.from_residual-in_err-ports.result (none_written _ _ _ _)

pub returns-in_err-write_ports-clause-front : goal.returns-in_err-write_ports-clause-front
returns-in_err-write_ports-clause-front g c =
    let front = c.in_err-write_ports.ensures.front in
    let lines = opened _ c.in_ok-ports.ports.telnet c.in_ok-ports.ports.web c.in_ok-ports.ensures.named in
    any_err c.from_residual-in_err-write_ports.result (front_written _ _ lines front.0 _ _ _ front.1)

pub returns-in_err-history-clause-front : goal.returns-in_err-history-clause-front
returns-in_err-history-clause-front g c =
    let lines = opened _ c.in_ok-ports.ports.telnet c.in_ok-ports.ports.web c.in_ok-ports.ensures.named in
    any_err c.from_residual-in_err-history.result
    (line_written _ _ lines _ _ _ c.in_ok-write_ports.ensures.ok)

pub returns-in_err-write_entries-clause-front : goal.returns-in_err-write_entries-clause-front
returns-in_err-write_entries-clause-front g c =
    let ends = end_of _ _ _ _ c.in_ok-hall.ensures.loaded c.in_ok-history.ensures.ends in
    let front = c.in_err-write_entries.ensures.front in
    let lines = opened _ c.in_ok-ports.ports.telnet c.in_ok-ports.ports.web c.in_ok-ports.ensures.named in
    any_err c.from_residual-in_err-write_entries.result
    (part_written _ _ lines front.0 _ _ _ _ _ ends c.in_ok-write_ports.ensures.ok front.1)

pub returns-then-is_served-clause-ok : goal.returns-then-is_served-clause-ok
returns-then-is_served-clause-ok g c =
    let ends = end_of _ _ _ _ c.in_ok-hall.ensures.loaded c.in_ok-history.ensures.ends in
    let lines = opened _ c.in_ok-ports.ports.telnet c.in_ok-ports.ports.web c.in_ok-ports.ensures.named in
    all_written _ _ lines _ _ _ _ _ ends c.in_ok-write_ports.ensures.ok c.in_ok-write_entries.ensures.ok

pub returns-clause-front : goal.returns-clause-front
returns-clause-front g c =
    let ends = end_of _ _ _ _ c.in_ok-hall.ensures.loaded c.in_ok-history.ensures.ends in
    let lines = opened _ c.in_ok-ports.ports.telnet c.in_ok-ports.ports.web c.in_ok-ports.ensures.named in
    whole_written _ _ lines _ _ _ _ _ ends c.in_ok-write_ports.ensures.ok c.in_ok-write_entries.ensures.ok
