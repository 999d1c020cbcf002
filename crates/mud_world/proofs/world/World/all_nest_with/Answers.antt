use Rattle.std.proofs.Common.{◌∙◌, arith, ap, sym, refl, is_some, not}
use Rattle.mud_world.specs.State.{nests}
use Rattle.mud_world.specs.inner.Fields.{with_lock}
use Rattle.mud_world.proofs.Records.{record_cases}
use Rattle.std.proofs.lemmas.Bool.{true≢false}
use Rattle.mud_world.specs.State.{record_at}
use Rattle.mud_world.proofs.Keying.{found}
use Rattle.mud_world.proofs.Climbing.{nest-plain, nest-exactly, nest-without, nest-missing}
use Rattle.mud_world.proofs.world.World.all_nest_with.Goals as goal

pub returns-then-not-exists : goal.returns-then-not-exists
returns-then-not-exists c =
    let w = c.args.self.now in
    record_cases (record_at w c.args.object)
    (λ e. sym (nest-missing w c.know_sound.ensures c.args.object c.args.key.now e))
    (λ r e. absurd (true≢false (sym (ap is_some e) ∙ sym c.exists.ensures ∙ c.if-not-exists.true)))

pub returns-then-nests_with : goal.returns-then-nests_with
returns-then-nests_with c =
    let w = c.args.self.now in
    let n = c.args.object in
    let key = c.args.key.now in
    let it = found w n (sym c.exists.ensures ∙ c.if-not-exists.false) in
    sym (nest-plain w c.know_sound.ensures n it.0 it.1 key
    (ap (nests (with_lock w n key) 0) (sym c.node-node.ensures.node) ∙ sym c.nests_with.ensures
    ∙ c.if-nests_with.true))

pub returns-then-nests_with-2 : goal.returns-then-nests_with-2
returns-then-nests_with-2 c =
    let w = c.args.self.now in
    let n = c.args.object in
    let key = c.args.key.now in
    let it = found w n (sym c.exists.ensures ∙ c.if-not-exists.false) in
    ap not c.climbs.ensures
    ∙ sym (nest-exactly w c.know_sound.ensures n it.0 it.1 key 0 3 (omega arith) refl
    (ap (nests (with_lock w n key) 1) (sym c.node-node.ensures.node) ∙ sym c.nests_with-2.ensures
    ∙ c.if-nests_with-2.true)
    (ap (nests (with_lock w n key) 0) (sym c.node-node.ensures.node) ∙ sym c.nests_with.ensures
    ∙ c.if-nests_with.false))

pub returns-then-nests_with-3 : goal.returns-then-nests_with-3
returns-then-nests_with-3 c =
    let w = c.args.self.now in
    let n = c.args.object in
    let key = c.args.key.now in
    let it = found w n (sym c.exists.ensures ∙ c.if-not-exists.false) in
    ap not c.climbs-then-nests_with-3.ensures
    ∙ sym (nest-exactly w c.know_sound.ensures n it.0 it.1 key 1 2 (omega arith) refl
    (ap (nests (with_lock w n key) 2) (sym c.node-node.ensures.node) ∙ sym c.nests_with-3.ensures
    ∙ c.if-nests_with-3.true)
    (ap (nests (with_lock w n key) 1) (sym c.node-node.ensures.node) ∙ sym c.nests_with-2.ensures
    ∙ c.if-nests_with-2.false))

pub returns-then-nests_with-4 : goal.returns-then-nests_with-4
returns-then-nests_with-4 c =
    let w = c.args.self.now in
    let n = c.args.object in
    let key = c.args.key.now in
    let it = found w n (sym c.exists.ensures ∙ c.if-not-exists.false) in
    ap not c.climbs-then-nests_with-4.ensures
    ∙ sym (nest-exactly w c.know_sound.ensures n it.0 it.1 key 2 1 (omega arith) refl
    (ap (nests (with_lock w n key) 3) (sym c.node-node.ensures.node) ∙ sym c.nests_with-4.ensures
    ∙ c.if-nests_with-4.true)
    (ap (nests (with_lock w n key) 2) (sym c.node-node.ensures.node) ∙ sym c.nests_with-3.ensures
    ∙ c.if-nests_with-3.false))

pub returns : goal.returns
returns c =
    let w = c.args.self.now in
    let n = c.args.object in
    let key = c.args.key.now in
    let it = found w n (sym c.exists.ensures ∙ c.if-not-exists.false) in
    sym (nest-without w c.know_sound.ensures n it.0 it.1 key 3 (omega arith)
    (ap (nests (with_lock w n key) 3) (sym c.node-node.ensures.node) ∙ sym c.nests_with-4.ensures
    ∙ c.if-nests_with-4.false) refl)
