use Rattle.std.proofs.Common.{◌≡◌, ◌∙◌, ◌≤◌, ◌-◌, ℕ, take, take_all, slice_index, drop, length, length-drop, arith}
use Rattle.std.proofs.Common.{add-zero}
use Rattle.std.proofs.lemmas.List.{take_rest, get_or-drop}
use Rattle.mud_nvt.specs.UnitViews.{all_shown}
use Rattle.mud_nvt.proofs.Whole.{takes_in, more_state, more_given}
use Rattle.mud_nvt.proofs.Stopping.{stops_before}
use Rattle.mud_nvt.proofs.Nvt.feed.Goals as goal

pub loop-taken-preserved : goal.loop-taken-preserved
loop-taken-preserved g c =
    let rest : take (length c.args.bytes.now - c.loop-taken.taken) (drop c.loop-taken.taken c.args.bytes.now)
    ≡ drop c.loop-taken.taken c.args.bytes.now =
    take_rest c.args.bytes.now c.loop-taken.taken in
    let within : c.in-Ok.count ≤ length (drop c.loop-taken.taken c.args.bytes.now) =
    rw rest at c.in-Ok.ensures.within in
    record {
      within = omega (arith, length-drop {A = ℕ});
      sound = λ h. c.take_front.ensures.sound (c.loop-taken.invariant.sound h);
      state = more_state c.args.self.now c.loop-taken.self c.take_front.new.self c.args.bytes.now c.loop-taken.taken
          c.in-Ok.count c.loop-taken.invariant.state (rw rest at c.in-Ok.ensures.state);
      given = more_given c.args.self.now c.loop-taken.self (all_shown c.args.units.now.items)
          (all_shown c.loop-taken.units.items)
          (all_shown c.take_front.new.units.items) c.args.bytes.now c.loop-taken.taken c.in-Ok.count
          c.loop-taken.invariant.state c.loop-taken.invariant.given (rw rest at c.in-Ok.ensures.given);
    }

pub returns-clause-ok : goal.returns-clause-ok
returns-clause-ok g c =
    let all : take c.loop-taken.taken c.args.bytes.now ≡ c.args.bytes.now =
    take_all c.loop-taken.taken c.args.bytes.now c.loop-taken-test.false in
    takes_in c.args.self.now c.loop-taken.self (all_shown c.args.units.now.items)
    (all_shown c.loop-taken.units.items) c.args.bytes.now
    (rw all at c.loop-taken.invariant.state) (rw all at c.loop-taken.invariant.given)

pub returns-in-Err-clause-stop : goal.returns-in-Err-clause-stop
returns-in-Err-clause-stop g c =
    takes_in c.args.self.now c.take_front.new.self (all_shown c.args.units.now.items)
    (all_shown c.take_front.new.units.items) (take c.loop-taken.taken c.args.bytes.now)
    (c.in-Err.ensures.err ∙ c.loop-taken.invariant.state) (c.in-Err.ensures.err_units ∙ c.loop-taken.invariant.given)

pub returns-in-Err-clause-memory : goal.returns-in-Err-clause-memory
returns-in-Err-clause-memory g c =
    stops_before c.args.self.now c.loop-taken.self (take c.loop-taken.taken c.args.bytes.now)
    (slice_index c.args.bytes.now c.loop-taken.taken) c.loop-taken.invariant.state
    (rw (take_rest c.args.bytes.now c.loop-taken.taken, get_or-drop c.loop-taken.taken c.args.bytes.now 0 0, add-zero)
    at c.in-Err.ensures.memory)
