use Rattle.std.proofs.Common.{◌≡◌, ap, subst}
use Rattle.std.specs.Prelude.{option_copied}
use Rattle.std.proofs.lemmas.Result.{IfErr-weaker}
use Rattle.mud_undo.specs.declared.choice.Choice.TheVariants.{Since}
use Rattle.mud_undo.specs.Answer.{MeansPlayer, MeansSince, IsNoUndo, HasNoUndo}
use Rattle.mud_undo.proofs.Reasons.{no_undo, since_by, since_all}
use Rattle.mud_undo.proofs.answering.without_since.Goals.{in-Some+in-Some-player_of, in-None}
use Rattle.mud_undo.proofs.answering.without_since.Goals as goal

pub returns-clause-err : goal.returns-clause-err
returns-clause-err c =
    let first = c.args.first in
    let by = option_copied c.args.by in
    let entries = c.in-Ok.whole.entries.items in
    let actor = c.match-by.actor in
    IfErr-weaker c.undo.result (IsNoUndo entries (λ d. d ≡ Since first actor))
    (HasNoUndo c.args.kind c.args.bytes.now (MeansSince first by))
    (no_undo c.args.kind c.args.bytes.now c.in-Ok.whole.torn entries (MeansSince first by) (Since first actor)
    c.in-Ok.ensures.keeps
    (elim c.match-by.branch [
      | in-Some+in-Some-player_of w ↦
          since_by first by w.in-Some.word.now entries actor w.in-Some-player_of.player (ap option_copied w.in-Some.is)
          w.actor-is
          (subst (λ v. MeansPlayer v w.in-Some.word.now w.in-Some-player_of.player) c.in-Ok.ensures.world
          w.in-Some-player_of.ensures)
      | in-None w ↦ since_all first by entries actor (ap option_copied w.in-None.is) w.actor-is
    ]))
    c.undo.ensures.err
