use Rattle.std.proofs.Common.{sym, ◌∙◌, append-nil}
use Rattle.mud_nvt.proofs.Runs.{typed_state, typed_given}
use Rattle.mud_nvt.proofs.Nvt.take_front.Goals as goal

pub returns-in_ok-add_text-in-Some-clause-state : goal.returns-in_ok-add_text-in-Some-clause-state
returns-in_ok-add_text-in-Some-clause-state g c =
    c.in_ok-add_text-in-Some.ensures.state ∙ typed_state _ _ _ c.in-Some.ensures

pub returns-in_ok-add_text-in-Some-clause-given : goal.returns-in_ok-add_text-in-Some-clause-given
returns-in_ok-add_text-in-Some-clause-given g c =
    rw (typed_given c.args.self.now c.args.bytes.now c.in-Some.text.now c.in-Some.ensures) (sym (append-nil _))
