use Rattle.std.proofs.Common.{List, [], ◌∷◌, ◌++◌, length, sym, ◌∙◌, ap}
use Rattle.std.proofs.lemmas.List.{map-append}
use Rattle.mud_hall.specs.Desk.{View}
use Rattle.mud_theorems.specs.declared.transcript.Transcript.{Transcript}
use Rattle.mud_theorems.specs.inner.Played.{HasPlayed}
use Rattle.mud_theorems.proofs.Jobs.{zip_pushed}
use Rattle.mud_theorems.proofs.gathering.take_apart.Goals as goal

pub loop-played-preserved : goal.loop-played-preserved
loop-played-preserved g c =
    let one = c.in-Some.played in (
      c.in_ok-push-2.ensures.items
          ∙ ap (λ (l : List Transcript). l ++ one.transcript ∷ []) c.loop-played.invariant.0
          ∙ sym (map-append (λ played. played.transcript) c.loop-played.yielded (one ∷ [])),
      zip_pushed
          (λ (d : View) (t : Transcript).
          HasPlayed (length g.J.HallName.cells) g.J.HallName.loaded d.state t)
          c.loop-played.desks.items c.push.new.self.items c.loop-played.transcripts.items
          c.push-in-loop-played.new.self.items one.desk one.transcript c.in_ok-push.ensures.items
          c.in_ok-push-2.ensures.items c.loop-played.invariant.1 one.work,
    )
