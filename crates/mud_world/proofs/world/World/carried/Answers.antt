use Rattle.std.proofs.Common.{◌∙◌, arith, ap, sym}
use Rattle.std.specs.Prelude.{nat_eq}
use Rattle.indexmap.specs.IndexSet.{insert_key, insert_all}
use Rattle.mud_world.proofs.Carrying.{gathers-one, gathers-none, gathers-more, gathers-few, gathers-all}
use Rattle.mud_world.proofs.Carrying.{holding-members, get-none, get-some}
use Rattle.mud_world.proofs.world.World.carried.Goals as goal
use Rattle.mud_world.proofs.world.World.carried.Goals.{then-exists+in_ok-add_number, else-exists}

pub loop-i-init : goal.loop-i-init
loop-i-init c =
    elim c.if-exists.branch [
      | then-exists+in_ok-add_number w ↦
          gathers-one c.args.self.now c.args.candidate c.if-exists.members.keys (sym w.if-exists.ensures)
          (ap (λ s. s.keys) w.members-is ∙ w.in_ok-add_number.ensures
          ∙ ap (λ v. insert_key nat_eq v c.args.candidate) c.new-members.ensures.empty)
      | else-exists w ↦
          gathers-none c.args.self.now c.args.candidate c.if-exists.members.keys (sym w.if-exists.ensures)
          (ap (λ s. s.keys) w.members-is ∙ c.new-members.ensures.empty)
    ]

pub returns-in-None-clause-holding : goal.returns-in-None-clause-holding
returns-in-None-clause-holding c =
    let sound = c.next_number-next.ensures.sound in
    gathers-all c.args.self.now sound c.args.candidate c.loop-i.members.keys c.loop-i.i c.loop-i.invariant
    (get-none c.loop-i.members.keys c.loop-i.i (sym c.in-None.ensures.key))

pub returns-in-None-clause-members : goal.returns-in-None-clause-members
returns-in-None-clause-members c =
    let sound = c.next_number-next.ensures.sound in
    holding-members c.args.self.now sound c.args.candidate c.loop-i.members.keys
    (gathers-all c.args.self.now sound c.args.candidate c.loop-i.members.keys c.loop-i.i c.loop-i.invariant
    (get-none c.loop-i.members.keys c.loop-i.i (sym c.in-None.ensures.key)))

pub loop-i-preserved : goal.loop-i-preserved
loop-i-preserved c =
    let w = c.args.self.now in
    let keys = c.loop-i.members.keys in
    let got = sym c.in-Some.ensures.key in
    gathers-more w c.next_number-next.ensures.sound c.args.candidate keys c.add_numbers.new.members.keys c.loop-i.i
    c.in-Some.at.now c.loop-i.invariant got
    (get-some keys c.loop-i.i c.in-Some.at.now got)
    (c.in_ok-add_numbers-in-Some.ensures ∙ ap (insert_all nat_eq keys) c.contents-inner.ensures)

pub returns-clause-holding : goal.returns-clause-holding
returns-clause-holding c =
    let next = c.next_number-next.ensures.next in
    let sound = c.next_number-next.ensures.sound in
    let few =
    gathers-few c.args.self.now sound c.args.candidate c.loop-i.members.keys c.loop-i.i c.loop-i.invariant
    c.len-known.ensures.unique in
    gathers-all c.args.self.now sound c.args.candidate c.loop-i.members.keys c.loop-i.i c.loop-i.invariant
    (omega (arith, few, next, c.loop-i-test.false))

pub returns-clause-members : goal.returns-clause-members
returns-clause-members c =
    let next = c.next_number-next.ensures.next in
    let sound = c.next_number-next.ensures.sound in
    let few =
    gathers-few c.args.self.now sound c.args.candidate c.loop-i.members.keys c.loop-i.i c.loop-i.invariant
    c.len-known.ensures.unique in
    holding-members c.args.self.now sound c.args.candidate c.loop-i.members.keys
    (gathers-all c.args.self.now sound c.args.candidate c.loop-i.members.keys c.loop-i.i c.loop-i.invariant
    (omega (arith, few, next, c.loop-i-test.false)))
