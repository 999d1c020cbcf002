use Rattle.std.proofs.Common.{List, inl, refl}
use Rattle.std.specs.Option.{option_map}
use Rattle.std.proofs.lemmas.Result.{err_from_is_err_and}
use Rattle.mud_chron.specs.Entry.{Entry}
use Rattle.mud_shelf.specs.Volume.{durable}
use Rattle.mud_journal.specs.Disk.{Holds}
use Rattle.mud_server_end.proofs.Written.{any_err, opened}
use Rattle.mud_server.specs.Volumes.{MatchLast}
use Rattle.mud_server.proofs.Settled.{none_settled, front_settled, line_settled, all_settled, any_settled}
use Rattle.mud_server.proofs.volumes.listen_volumes.Goals as goal

pub returns-in_err-ports-clause-front : goal.returns-in_err-ports-clause-front
returns-in_err-ports-clause-front g c = any_err c.from_residual.result (none_settled _ _ _ _ _)

pub returns-in_err-beginning-clause-front : goal.returns-in_err-beginning-clause-front
returns-in_err-beginning-clause-front g c = any_err c.from_residual-in_err-beginning.result (none_settled _ _ _ _ _)

pub returns-in_err-beginning-clause-fault : goal.returns-in_err-beginning-clause-fault
returns-in_err-beginning-clause-fault g c =
    let p =
    err_from_is_err_and c.from_residual-in_err-beginning.result c.from_residual-in_err-beginning.ensures.1 in
    rw (p.1, p.2) (c.in_err-beginning.ensures.fault c.args.out.now)

pub returns-in_err-write_ports-clause-front : goal.returns-in_err-write_ports-clause-front
returns-in_err-write_ports-clause-front g c =
    let front = c.in_err-write_ports.ensures.front in
    let lines = opened _ c.in_ok-ports.ports.telnet c.in_ok-ports.ports.web c.in_ok-ports.ensures.named in
    any_err c.from_residual-in_err-write_ports.result (front_settled _ _ lines front.0 _ _ _ _ front.1)

pub returns-in_err-company-clause-front : goal.returns-in_err-company-clause-front
returns-in_err-company-clause-front g c =
    let lines = opened _ c.in_ok-ports.ports.telnet c.in_ok-ports.ports.web c.in_ok-ports.ensures.named in
    any_err c.from_residual-in_err-company.result
    (line_settled _ _ lines _ _ _ _ _ (inl refl) c.in_ok-write_ports.ensures.ok)

pub returns-in_err-company-clause-fault : goal.returns-in_err-company-clause-fault
returns-in_err-company-clause-fault g c =
    let p =
    err_from_is_err_and c.from_residual-in_err-company.result c.from_residual-in_err-company.ensures.1 in
    rw (p.1, p.2)
    (c.in_err-company.ensures.fault c.args.limits.capacity c.args.first.loaded.items c.args.out.now
    c.write_ports.new.out)

pub returns-clause-ok : goal.returns-clause-ok
returns-clause-ok g c =
    let lines = opened _ c.in_ok-ports.ports.telnet c.in_ok-ports.ports.web c.in_ok-ports.ensures.named in
    all_settled
    (λ (history : List Entry) journal.
    MatchLast (λ f. Holds (g.S.Disk.Appends.kept f.disk) history)
    (λ l. Holds (option_map durable (g.S.Draft.Draft.stage l.disk.draft)) history) journal)
    c.serve_volumes.result _ _ lines _ _ _ _ _ _ _ c.in_ok-beginning.ensures.loaded c.in_ok-write_ports.ensures.ok
    c.serve_volumes.ensures.ok

pub returns-clause-front : goal.returns-clause-front
returns-clause-front g c =
    let lines = opened _ c.in_ok-ports.ports.telnet c.in_ok-ports.ports.web c.in_ok-ports.ensures.named in
    any_settled c.serve_volumes.result _ _ lines _ _ _ _ _ _ _ c.in_ok-beginning.ensures.loaded
    c.in_ok-write_ports.ensures.ok c.serve_volumes.ensures.front
