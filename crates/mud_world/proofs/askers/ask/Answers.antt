use Rattle.std.specs.Prelude.{nat_eq}
use Rattle.std.specs.List.{list_any}
use Rattle.std.proofs.lemmas.Result.{on_err_weaker}
use Rattle.mud_key.specs.Node.{key_of as tree_of}
use Rattle.mud_key.specs.Tree.{asks_of}
use Rattle.mud_world.specs.inner.Edits.{asked_by}
use Rattle.mud_world.proofs.Asking.{taken_out}
use Rattle.mud_world.proofs.askers.ask.Goals as goal

pub returns-then-is_err-clause-err : goal.returns-then-is_err-clause-err
returns-then-is_err-clause-err c =
    on_err_weaker c.begin-done.result
    (λ between.
    taken_out c.args.asker (λ n. list_any (nat_eq n) (asks_of (tree_of c.node-node.result.now)))
    (λ n. asked_by n c.args.old.now) c.args.askers.now c.begin-done.new.askers c.end.new.askers c.requires between
    c.end.ensures)
    c.begin-done.ensures.err
