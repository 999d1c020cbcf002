use Rattle.std.proofs.Common.{true, ap, sym, ◌∙◌, arith}
use Rattle.std.specs.Option.{option_map_or, option_and_then}
use Rattle.mud_key.proofs.Sizes.{size_of, size_within}
use Rattle.mud_world.specs.State.{record_at, key_of, nests}
use Rattle.mud_world.specs.inner.Fields.{with_lock}
use Rattle.mud_world.proofs.Locking.{key_of-locked_same, key_of-locked_other, key_of-locked_gone}
use Rattle.mud_world.proofs.world.World.+nesting.Goals as goal

pub asked_nests_with-returns-in-None : goal.asked_nests_with-returns-in-None
asked_nests_with-returns-in-None t c =
    let w = with_lock c.args.self.now c.args.object c.args.key.now in
    sym (ap (λ v. option_map_or (nests w c.args.levels) v true)
    (key_of-locked_gone c.args.self.now c.args.object c.args.key.now c.args.asked (sym c.in-None.ensures)))

pub asked_nests_with-returns-then-asked-object : goal.asked_nests_with-returns-then-asked-object
asked_nests_with-returns-then-asked-object t c =
    let w = with_lock c.args.self.now c.args.object c.args.key.now in
    let here = ap (record_at c.args.self.now) (sym c.if-asked-object.true) ∙ sym c.in-Some.ensures in
    c.nests_with.ensures ∙ ap (nests w c.args.levels) c.node.ensures.node
    ∙ sym (ap (λ v. option_map_or (nests w c.args.levels) v true)
    (ap (key_of w) c.if-asked-object.true ∙ key_of-locked_same c.args.self.now c.args.object c.args.key.now _ here))

pub asked_nests_with-returns-in-None-key : goal.asked_nests_with-returns-in-None-key
asked_nests_with-returns-in-None-key t c =
    let w = with_lock c.args.self.now c.args.object c.args.key.now in
    sym (ap (λ v. option_map_or (nests w c.args.levels) v true)
    (key_of-locked_other c.args.self.now c.args.object c.args.key.now c.args.asked c.if-asked-object.false
    ∙ ap (option_and_then (λ r. r.key)) (sym c.in-Some.ensures) ∙ c.in-None-key.is))

pub asked_nests_with-returns-in-Some-key : goal.asked_nests_with-returns-in-Some-key
asked_nests_with-returns-in-Some-key t c =
    let w = with_lock c.args.self.now c.args.object c.args.key.now in
    c.nests_with-in-Some-key.ensures ∙ ap (nests w c.args.levels) c.node-in-Some-key.ensures.node
    ∙ sym (ap (λ v. option_map_or (nests w c.args.levels) v true)
    (key_of-locked_other c.args.self.now c.args.object c.args.key.now c.args.asked c.if-asked-object.false
    ∙ ap (option_and_then (λ r. r.key)) (sym c.in-Some.ensures) ∙ c.in-Some-key.is))

pub asked_nests_with-nests_with-requires : goal.asked_nests_with-nests_with-requires
asked_nests_with-nests_with-requires t c =
    (omega (arith, c.decreases, size_within _ c.node.ensures.key.limits, ap size_of c.node.ensures.node), tt)

pub asked_nests_with-nests_with-requires-in-Some-key : goal.asked_nests_with-nests_with-requires-in-Some-key
asked_nests_with-nests_with-requires-in-Some-key t c =
    let small = size_within _ c.node-in-Some-key.ensures.key.limits in
    (omega (arith, c.decreases, small, ap size_of c.node-in-Some-key.ensures.node), tt)
