use Rattle.std.proofs.Common.{◌≡◌, ◌<◌, length, get_or, sym, ap, ◌∙◌, arith, add-one}
use Rattle.mud_row.specs.inner.Known.{names_of}
use Rattle.mud_row.proofs.Notes.{name_beside, names_as_many, names-set, take-set_agree, set_same}
use Rattle.mud_row.proofs.pass.take_over.Goals as goal

pub index_mut-requires-in-loop-i : goal.index_mut-requires-in-loop-i
index_mut-requires-in-loop-i c =
    omega (arith, names_as_many _ _ c.loop-i.invariant.0, names_as_many _ _ c.requires.row, c.requires.within)

pub loop-i-preserved : goal.loop-i-preserved
loop-i-preserved c =
    let i = c.loop-i.i in
    let x = c.index_mut-in-loop-i.result.now in
    let y = c.index_mut.result.now in
    let same : names_of c.loop-i.mine.items ≡ names_of c.loop-i.theirs.items =
    c.loop-i.invariant.0 ∙ (c.requires.row ∙ sym (ap names_of c.loop-i.invariant.1)) in
    let mine_room : i < length c.loop-i.mine.items =
    omega (arith, names_as_many _ _ c.loop-i.invariant.0, names_as_many _ _ c.requires.row, c.requires.within) in
    let name : c.again.result.cell ≡ x.cell =
    ap (λ n. n.cell) c.again.ensures.1
    ∙ name_beside c.loop-i.mine.items c.loop-i.theirs.items i x y same mine_room c.index_mut-in-loop-i.ensures.value
    c.index_mut.ensures.value in
    let at : y ≡ get_or c.args.theirs.now.items i y =
    c.index_mut.ensures.value ∙ ap (λ xs. get_or xs i y) c.loop-i.invariant.1 in (
      names-set c.loop-i.mine.items i x c.again.result c.index_mut-in-loop-i.ensures.value name ∙ c.loop-i.invariant.0,
      set_same c.loop-i.theirs.items i y c.again.new.self c.index_mut.ensures.value c.again.ensures.0
          ∙ c.loop-i.invariant.1,
      rw (add-one, c.again.ensures.1)
          (take-set_agree c.loop-i.mine.items c.args.theirs.now.items i y c.loop-i.invariant.2 mine_room
          (omega (arith, c.requires.within)) at),
    )
