use Rattle.std.proofs.lemmas.Result.{on_ok_weaker}
use Rattle.mud_world.specs.KeyIndex.{IsKeyIndex}
use Rattle.mud_world.specs.inner.Answers.{IsEnlarged}
use Rattle.mud_world.proofs.KeyIndexes.{index-follows}
use Rattle.mud_world.proofs.key_index.KeyIndex.follow.Goals as goal

pub returns : goal.returns
returns c = λ was sound is step.
    let now = c.args.world.now in
    on_ok_weaker {P = IsEnlarged now c.look_again.new.self c.grow.new.self} {Q = IsKeyIndex now c.grow.new.self}
    c.grow.result
    (index-follows was sound c.args.change.now now step c.args.self.now c.look_again.new.self c.grow.new.self is
    c.in_ok-look_again.ensures) c.grow.ensures
