use Rattle.mud_world.proofs.Going.{on_err}
use Rattle.mud_world.proofs.Asking.{linked-out}
use Rattle.mud_world.proofs.maps.introduce.Goals as goal

-- the object is removed from the lists into which it was inserted
pub returns-then-is_err-clause-err_links : goal.returns-then-is_err-clause-err_links
returns-then-is_err-clause-err_links c =
    on_err c.enroll-done.result
    (linked-out c.args.kind c.args.number c.args.links.now c.link.new.self c.unlink.new.self c.requires
    c.in_ok-link.ensures.ok c.unlink.ensures)
