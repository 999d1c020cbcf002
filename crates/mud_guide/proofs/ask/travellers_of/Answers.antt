use Rattle.std.proofs.Common.{ℕ, List, [], ◌∷◌, ◌++◌, map, take, sym, ◌∙◌, ap, subst}
use Rattle.std.specs.Prelude.{All}
use Rattle.std.proofs.lemmas.List.{map-append, take_more}
use Rattle.std.proofs.lemmas.List.Elements.{All-push}
use Rattle.mud_roads.specs.Passable.{Knowledge, IsTraveller}
use Rattle.mud_guide.proofs.ask.travellers_of.Goals as goal

pub loop-player-preserved : goal.loop-player-preserved
loop-player-preserved c =
    let before = c.loop-player.travellers.items in
    let party = c.args.party.now in
    let at = c.loop-player.player-index in
    let who : Knowledge → ℕ = λ t. t.player in
    record {
      travellers = subst (All (IsTraveller c.args.world.now)) (sym c.in_ok-push.ensures.items)
          (All-push (IsTraveller c.args.world.now) before c.in_ok-of.field-0 c.loop-player.invariant.travellers
          c.in_ok-of.ensures.traveller);
      players = ap (map who) c.in_ok-push.ensures.items ∙ map-append who before (c.in_ok-of.field-0 ∷ [])
          ∙ ap (λ (ns : List ℕ). ns ++ c.in_ok-of.field-0.player ∷ []) c.loop-player.invariant.players
          ∙ ap (λ (n : ℕ). take at party ++ n ∷ []) c.in_ok-of.ensures.player
          ∙ sym (take_more party at 0 c.loop-player-test.true);
    }
