use Rattle.std.specs.Io.KnownBytes.{Consumes}
use Rattle.mud_socket.proofs.head.hear.Given as goal

-- the head so far is the bytes read
abbrev pub invariant-loop : goal.invariant-loop
invariant-loop g l = Consumes (g.S.Read.remaining l.fn.source) (g.S.Read.remaining l.source) l.head.items
