use Rattle.std.proofs.lemmas.Result.{err_from_is_err_and}
use Rattle.mud_server_accept.proofs.volume.serve_one.Goals as goal

pub returns-in_err-reader-clause-fault : goal.returns-in_err-reader-clause-fault
returns-in_err-reader-clause-fault g c =
    let p = err_from_is_err_and c.from_residual.result c.from_residual.ensures.1 in
    rw (p.1, p.2) (λ capacity loaded old new. tt)

pub returns-in_err-quay-clause-fault : goal.returns-in_err-quay-clause-fault
returns-in_err-quay-clause-fault g c =
    let p = err_from_is_err_and c.from_residual-in_err-quay.result c.from_residual-in_err-quay.ensures.1 in
    rw (p.1, p.2) (λ capacity loaded old new. tt)
