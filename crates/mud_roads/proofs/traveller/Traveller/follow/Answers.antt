use Rattle.std.proofs.Common.{◌≡◌, ℕ, Bool, List, subst, ap, sym, ◌∙◌}
use Rattle.std.proofs.lemmas.Result.{on_ok_weaker}
use Rattle.mud_world.specs.State.{place_of}
use Rattle.mud_world.specs.KeyIndex.{IsKeyIndex}
use Rattle.mud_roads.specs.Passable.{Knowledge, IsFollower}
use Rattle.mud_roads.specs.inner.Growing.{heeding, moved_to, adjusted, IsGrown}
use Rattle.mud_roads.proofs.Following.{grows, grown-apart, keys-kept}
use Rattle.mud_roads.proofs.traveller.Traveller.follow.Goals as goal

pub returns-clause-follower : goal.returns-clause-follower
returns-clause-follower c = λ was sound follows step.
    let now = c.args.world.now in
    let d = c.args.change.now.deed in
    let old = c.args.self.now in
    let new = c.grow.new.self in
    let moved = c.move_along.ensures
    ∙ ap (λ (t : Knowledge). moved_to t (place_of now t.player)) c.heed.ensures in
    let before : c.adjust.new.self ≡ adjusted now d (moved_to (heeding d old) (place_of now old.player)) =
    c.adjust.ensures ∙ ap (λ (t : Knowledge). adjusted now d t) moved in
    let index : IsKeyIndex now c.follow_keys.new.self.keys =
    c.in_ok-follow_keys.ensures.keys was sound
    (subst (λ (k : List Bool × List ℕ). IsKeyIndex was k)
    (sym (keys-kept now d (heeding d old) (place_of now old.player)) ∙ ap (λ (t : Knowledge). t.keys) (sym before))
    follows.keys) step in
    on_ok_weaker {P = IsGrown now c.follow_keys.new.self new} {Q = IsFollower now new}
    c.grow.result
    (λ grown. record {
      drawing = grows was sound old follows.drawing c.args.change.now now step new
          (subst (λ (t : Knowledge). IsGrown now t new) before
          (grown-apart now c.adjust.new.self c.follow_keys.new.self.keys new
          (subst (λ (t : Knowledge). IsGrown now t new) c.in_ok-follow_keys.ensures.rest grown)));
      keys = subst (λ (k : List Bool × List ℕ). IsKeyIndex now k) (sym c.grow.ensures.keys) index;
    }) c.grow.ensures.grown
