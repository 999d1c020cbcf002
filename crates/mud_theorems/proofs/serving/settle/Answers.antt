use Rattle.std.proofs.Common.{◌≡◌, List, sym, ◌∙◌, ap, subst, arith}
use Rattle.std.proofs.lemmas.Bool.Decides.{nat_tests}
use Rattle.mud_hall.specs.Desk.{View}
use Rattle.mud_hall.specs.Settlement.{IsSettled}
use Rattle.mud_theorems.proofs.Keeping.{gathered_is, gathered_all}
use Rattle.mud_theorems.proofs.serving.settle.Goals as goal

pub returns-then-not-is_any_cut-clause-same : goal.returns-then-not-is_any_cut-clause-same
returns-then-not-is_any_cut-clause-same g c =
    let loaded = g.J.HallName.loaded in
    let list = c.gather-count.new.self.entries in
    let history = c.in-Ok.settled.history in
    let desks = c.args.desks.items in
    let settled = subst (λ (l : List View). IsSettled loaded l history) c.gather-count.ensures.desks
    c.in-Ok.ensures.settled in
    let same : c.len.result ≡ c.gather-count.result = grind (arith, nat_tests, c.if-len-count.false) in
    gathered_is loaded list history desks c.gather-count.ensures.begun
    (gathered_all c.write.new.self.entries list desks c.gather-count.ensures.gathered) settled.gathered
    (sym c.len.ensures.len ∙ same ∙ c.gather-count.ensures.len)

pub returns-clause-same : goal.returns-clause-same
returns-clause-same g c =
    let loaded = g.J.HallName.loaded in
    let list = c.gather-count.new.self.entries in
    let history = c.in-Ok.settled.history in
    let desks = c.args.desks.items in
    let settled = subst (λ (l : List View). IsSettled loaded l history) c.gather-count.ensures.desks
    c.in-Ok.ensures.settled in
    let same : c.len.result ≡ c.gather-count.result = grind (arith, nat_tests, c.if-len-count.false) in
    ap (λ k. k.entries) c.fail.ensures
    ∙ gathered_is loaded list history desks c.gather-count.ensures.begun
    (gathered_all c.write.new.self.entries list desks c.gather-count.ensures.gathered) settled.gathered
    (sym c.len.ensures.len ∙ same ∙ c.gather-count.ensures.len)
