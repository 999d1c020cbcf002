use Rattle.std.proofs.Common.{◌≡◌, ◌||◌, ℕ, ap}
use Rattle.std.proofs.lemmas.Result.{on_ok_weaker, on_err_weaker}
use Rattle.mud_key.specs.Node.{key_of as tree_of}
use Rattle.mud_key.specs.Tree.{asks_of}
use Rattle.mud_index.specs.Rising.{put}
use Rattle.mud_world.proofs.Asking.{asks_node, asks-either, changed-both, between-both, put-twice}
use Rattle.mud_world.proofs.askers.+begin.Goals.{After-deref-in-Join-2}
use Rattle.mud_world.proofs.askers.+begin.Goals as goal

-- the whole key asks the questions of its two parts
parts_ask : (t : ℕ) (c : After-deref-in-Join-2 t) (n : ℕ)
    → asks_node c.args.node.now n ≡ (asks_node c.deref-in-Join.result.now n || asks_node c.deref-in-Join-2.result.now n)
parts_ask t c =
    asks-either c.args.node.now c.in-Join.left.value c.in-Join.right.value c.deref-in-Join.result.now
    c.deref-in-Join-2.result.now (ap (λ v. asks_of (tree_of v)) c.in-Join.is) c.deref-in-Join.ensures
    c.deref-in-Join-2.ensures

pub returns-in_ok-begin-in-Join-clause-ok : goal.returns-in_ok-begin-in-Join-clause-ok
returns-in_ok-begin-in-Join-clause-ok t c =
    on_ok_weaker c.begin-in-Join-2.result
    (changed-both (asks_node c.deref-in-Join.result.now) (asks_node c.deref-in-Join-2.result.now)
    (asks_node c.args.node.now)
    (parts_ask t (goal.at.returns-in_ok-begin-in-Join-clause-ok t c).After-deref-in-Join-2)
    (put c.args.asker) (put-twice c.args.asker) c.args.askers.now c.begin-in-Join.new.askers
    c.begin-in-Join-2.new.askers c.in_ok-begin-in-Join.ensures.ok)
    c.begin-in-Join-2.ensures.ok

pub returns-in_ok-begin-in-Join-clause-err : goal.returns-in_ok-begin-in-Join-clause-err
returns-in_ok-begin-in-Join-clause-err t c =
    on_err_weaker c.begin-in-Join-2.result
    (between-both (asks_node c.deref-in-Join.result.now) (asks_node c.deref-in-Join-2.result.now)
    (asks_node c.args.node.now)
    (parts_ask t (goal.at.returns-in_ok-begin-in-Join-clause-err t c).After-deref-in-Join-2)
    (put c.args.asker) (put-twice c.args.asker) c.args.askers.now c.begin-in-Join.new.askers
    c.begin-in-Join-2.new.askers c.in_ok-begin-in-Join.ensures.ok)
    c.begin-in-Join-2.ensures.err
