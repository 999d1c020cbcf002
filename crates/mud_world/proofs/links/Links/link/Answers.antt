use Rattle.std.proofs.Common.{refl}
use Rattle.std.specs.Prelude.{nat_eq}
use Rattle.std.proofs.lemmas.Result.{on_err_weaker}
use Rattle.mud_world.proofs.Asking.{inserted-out}
use Rattle.mud_world.proofs.links.Links.link.Goals as goal

-- the exit is removed from the list into which it was inserted
pub returns-then-is_err-clause-err : goal.returns-then-is_err-clause-err
returns-then-is_err-clause-err c =
    let source = c.in-Exit.passage.source in
    on_err_weaker c.insert-done.result
    (λ same. record {
      contents = λ n. refl;
      leaving =
          inserted-out c.args.number
          (λ n. nat_eq n source) c.args.self.now.leaving c.insert.new.self c.remove.new.self c.requires.leaving
          c.in_ok-insert-in-Exit.ensures.ok c.remove.ensures;
      arriving = same;
    })
    c.insert-done.ensures.err
