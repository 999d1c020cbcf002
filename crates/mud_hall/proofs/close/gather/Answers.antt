use Rattle.std.proofs.Common.{◌≡◌, ◌∙◌, ◌<◌, ℕ, List, length, take, get_or, ap, subst, sym, arith}
use Rattle.std.proofs.lemmas.List.{take_all}
use Rattle.mud_chron.specs.Entry.{Entry}
use Rattle.mud_hall.specs.Desk.{View}
use Rattle.mud_hall.specs.Settlement.{IsGathered}
use Rattle.mud_row.proofs.Notes.{set_same}
use Rattle.mud_hall.proofs.Lists.{take_snoc}
use Rattle.mud_hall.proofs.Checks.{gathered_more}
use Rattle.mud_hall.proofs.close.gather.Goals as goal

pub loop-i-preserved : goal.loop-i-preserved
loop-i-preserved g c =
    let ds : List View = c.args.desks.now.items in
    let before : List View = c.loop-i.desks.items in
    let i : ℕ = c.loop-i.i in
    let d : View = c.index_mut-desk.result.now in
    let loaded : List Entry = c.args.whole.now.list in
    let h : List Entry = c.loop-i.whole.list in
    let told : List Entry = c.tell.new.whole.list in
    let G : List View → Type 0 = λ xs. IsGathered loaded xs told in
    let here : d ≡ get_or before i d = c.index_mut-desk.ensures.value in
    let at : d ≡ get_or ds i d = here ∙ ap (λ xs. get_or xs i d) c.loop-i.invariant.same in
    let lt : i < length ds = omega (arith, ap length c.loop-i.invariant.same) in
    let s = c.tell.ensures in
    record {
      same = set_same before i d c.tell.new.self here s.same ∙ c.loop-i.invariant.same;
      row = s.row ∙ c.loop-i.invariant.row;
      gathered = subst G (sym (take_snoc ds i d d lt at))
          (gathered_more loaded (take i ds) d h told c.loop-i.invariant.gathered s.longer s.theirs s.mine);
    }

pub returns-clause-gathered : goal.returns-clause-gathered
returns-clause-gathered g c =
    let G : List View → Type 0 = λ xs. IsGathered c.args.whole.now.list xs c.loop-i.whole.list in
    let ds : List View = c.args.desks.now.items in
    subst G (take_all c.loop-i.i ds (omega (arith, ap length c.loop-i.invariant.same))) c.loop-i.invariant.gathered
