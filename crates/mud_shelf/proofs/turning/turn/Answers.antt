use Rattle.std.proofs.Common.{[], ◌+◌, ◌≡◌, sym, subst, length, arith}
use Rattle.mud_journal.specs.OpenFaults.{IsBeginFault}
use Rattle.mud_shelf.proofs.Volumes.{holds_published, in_turn}
use Rattle.mud_shelf.proofs.turning.turn.Goals as goal

pub returns-in-Ok-clause-there : goal.returns-in-Ok-clause-there
returns-in-Ok-clause-there g c =
    holds_published (g.N.Draft.stage c.in-Ok.journal.disk.draft) c.args.begun.now
    (c.in-Ok.ensures.holds [] c.requires.text (sym c.requires.count))

pub returns-in-Ok-clause-crash : goal.returns-in-Ok-clause-crash
returns-in-Ok-clause-crash g c = λ fresh.
    in_turn g.N.Draft.tears c.args.begun.now (g.N.Draft.stage c.args.found.disk.draft)
    (g.N.Draft.left_since c.args.found.disk.draft (g.N.Draft.moment c.args.found.disk.draft))
    (g.N.Draft.left_since c.in-Ok.journal.disk.draft (g.N.Draft.moment c.args.found.disk.draft))
    fresh (g.met.N.Draft.left c.args.found.disk.draft)
    (λ bytes was. c.in-Ok.ensures.crash [] c.requires.text (sym c.requires.count) bytes was)

pub returns-in-Err-clause-crash_err : goal.returns-in-Err-clause-crash_err
returns-in-Err-clause-crash_err g c = λ fresh.
    in_turn g.N.Draft.tears c.args.begun.now (g.N.Draft.stage c.args.found.disk.draft)
    (g.N.Draft.left_since c.args.found.disk.draft (g.N.Draft.moment c.args.found.disk.draft))
    (g.N.Draft.left_since c.in-Err.volume.draft (g.N.Draft.moment c.args.found.disk.draft))
    fresh (g.met.N.Draft.left c.args.found.disk.draft)
    (λ bytes was. c.in-Err.ensures.crash_err [] c.requires.text (sym c.requires.count) bytes was)

pub returns-in-Err-clause-err : goal.returns-in-Err-clause-err
returns-in-Err-clause-err g c =
    let none : c.args.found.count + length c.args.begun.now ≡ length c.args.begun.now =
    omega (arith, c.requires.count) in
    c.turn_fault-why.ensures.fault (length c.args.begun.now)
    (subst (λ k. IsBeginFault k c.in-Err.fault) none c.in-Err.ensures.err)
