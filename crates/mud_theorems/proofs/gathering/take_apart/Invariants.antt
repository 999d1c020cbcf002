use Rattle.std.proofs.Common.{◌≡◌, length, map}
use Rattle.std.specs.List.{AllZip}
use Rattle.mud_theorems.specs.inner.Played.{HasPlayed}
use Rattle.mud_theorems.proofs.gathering.take_apart.Given as goal

abbrev pub invariant-loop-played : goal.invariant-loop-played
invariant-loop-played g l =
    (l.transcripts.items ≡ map (λ played. played.transcript) l.yielded)
    × ∥ AllZip (λ desk t. HasPlayed (length g.J.HallName.cells) g.J.HallName.loaded desk.state t)
    l.desks.items l.transcripts.items ∥₁
