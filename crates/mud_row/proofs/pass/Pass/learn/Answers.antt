use Rattle.std.proofs.Common.{◌≡◌, length, ap, ◌∙◌, arith, inr}
use Rattle.mud_row.specs.inner.Known.{known_front}
use Rattle.mud_row.proofs.Notes.{front_bound, front-take, names-length, prefix_self}
use Rattle.mud_row.proofs.pass.Pass.learn.Goals as goal

pub take_over-requires-clause-within : goal.take_over-requires-clause-within
take_over-requires-clause-within c =
    omega (arith, front_bound c.other.inside.count c.other.inside.notes.items, c.other.invariant.1)

-- the entries that the copied notes know
taken : (c : goal.After-self-1)
    → known_front c.other.inside.count c.take_over.new.mine.items
    ≡ known_front c.other.inside.count c.other.inside.notes.items
taken c =
    front-take c.other.inside.count c.take_over.new.mine.items c.other.inside.notes.items c.take_over.ensures.agree

-- these are all entries that the other pass knew
taken_all : (c : goal.After-self-1)
    → known_front c.other.inside.count c.take_over.new.mine.items ≡ c.args.other.now.list
taken_all c = taken c ∙ (ap (λ k. k.list) c.other.view_is ∙ ap (λ k. k.list) c.agree.ensures.other_same)

pub invariant_of-self : goal.invariant_of-self
invariant_of-self c = (
  omega (
    arith,
    ap length c.take_over.ensures.row,
    names-length c.take_over.new.mine.items,
    names-length
        c.self.inside.notes.items,
    c.self.invariant.0,
  ),
  ap length (taken c) ∙ c.other.invariant.1,
)

pub returns-then-self-other-clause-longer : goal.returns-then-self-other-clause-longer
returns-then-self-other-clause-longer c = inr (taken_all c)

pub returns-then-self-other-clause-mine : goal.returns-then-self-other-clause-mine
returns-then-self-other-clause-mine c =
    let mine : known_front c.self.inside.count c.self.inside.notes.items ≡ c.args.self.now.list =
    ap (λ k. k.list) (c.self.view_is ∙ c.agree.ensures.mine_same) in
    let theirs : known_front c.other.inside.count c.other.inside.notes.items ≡ c.args.other.now.list =
    ap (λ k. k.list) (c.other.view_is ∙ c.agree.ensures.other_same) in
    rw (taken_all c)
    (c.agree.ensures.shorter
    (omega (arith, ap length mine, ap length theirs, c.self.invariant.1, c.other.invariant.1)))

pub returns-then-self-other-clause-theirs : goal.returns-then-self-other-clause-theirs
returns-then-self-other-clause-theirs c = rw (taken_all c) (prefix_self c.args.other.now.list)
