use Rattle.std.proofs.Common.{◌≡◌, ◌<◌, ℕ, length, get_or, slice_get, sym, ap, ◌∙◌, subst, arith, add-one, List}
use Rattle.std.proofs.Common.{Option}
use Rattle.std.specs.Prelude.{IfSome}
use Rattle.once_cell.specs.Once.{Agrees}
use Rattle.once_cell.specs.declared.race.note.Note.{Note}
use Rattle.mud_chron.specs.Entry.{Entry}
use Rattle.mud_row.specs.inner.Known.{names_of, known_front}
use Rattle.mud_row.proofs.Notes.{front_bound, name_beside, known_at, stands_at, notes_agree, take_agree, set_same}
use Rattle.mud_row.proofs.pass.compare.Goals as goal

-- there are at least as many notes as known entries
reaches : (k : ℕ) (now ns : List (Note Entry)) (i : ℕ) → now ≡ ns → length (known_front k ns) ≡ k → i < k
    → i < length now
reaches k now ns i same all lt = omega (arith, ap length same, front_bound k ns)

pub index_mut-requires : goal.index_mut-requires
index_mut-requires c =
    let r = reaches c.args.theirs_known _ _ c.loop-i.i c.loop-i.invariant.1 c.requires.theirs_all
    (omega (arith, c.requires.within.1)) in omega arith

pub index_mut-requires-in-loop-i : goal.index_mut-requires-in-loop-i
index_mut-requires-in-loop-i c =
    let r = reaches c.args.mine_known _ _ c.loop-i.i c.loop-i.invariant.0 c.requires.mine_all
    (omega (arith, c.requires.within.0)) in omega arith

pub compare-requires : goal.compare-requires
compare-requires c =
    let same : names_of c.loop-i.mine.items ≡ names_of c.loop-i.theirs.items =
    ap names_of c.loop-i.invariant.0 ∙ (c.requires.row ∙ sym (ap names_of c.loop-i.invariant.1)) in
    ap (λ n. n.cell) c.again-copy.ensures.1
    ∙ name_beside c.loop-i.mine.items c.loop-i.theirs.items c.loop-i.i c.index_mut-in-loop-i.result.now
    c.index_mut.result.now same
    (reaches c.args.mine_known _ _ _ c.loop-i.invariant.0 c.requires.mine_all (omega (arith, c.requires.within.0)))
    c.index_mut-in-loop-i.ensures.value c.index_mut.ensures.value

pub loop-i-preserved : goal.loop-i-preserved
loop-i-preserved c =
    let mine : List Entry = known_front c.args.mine_known c.args.mine.now.items in
    let theirs : List Entry = known_front c.args.theirs_known c.args.theirs.now.items in
    let i = c.loop-i.i in
    let x = c.index_mut-in-loop-i.result.now in
    let y = c.index_mut.result.now in
    let x_at : slice_get mine i ≡ x.known =
    known_at c.args.mine_known c.args.mine.now.items i x c.requires.mine_all (omega (arith, c.requires.within.0))
    (c.index_mut-in-loop-i.ensures.value ∙ ap (λ xs. get_or xs i x) c.loop-i.invariant.0) in
    let y_at : slice_get theirs i ≡ y.known =
    known_at c.args.theirs_known c.args.theirs.now.items i y c.requires.theirs_all
    (omega (arith, c.requires.within.1))
    (c.index_mut.ensures.value ∙ ap (λ xs. get_or xs i y) c.loop-i.invariant.1) in
    let mine_has = stands_at mine i (omega (arith, c.requires.within.0, c.requires.mine_all)) in
    let theirs_has = stands_at theirs i (omega (arith, c.requires.within.1, c.requires.theirs_all)) in
    let P : Option Entry → Type 0 = λ o. IfSome o (Agrees x.known) in
    let agreed : IfSome y.known (Agrees x.known) =
    subst P (ap (λ n. n.known) c.again-copy.ensures.1) c.compare.ensures.1 in
    let one : x.known ≡ y.known =
    notes_agree x.known y.known mine_has.0 theirs_has.0 (sym x_at ∙ mine_has.1) (sym y_at ∙ theirs_has.1) agreed in (
      set_same c.loop-i.mine.items i x c.compare.new.self c.index_mut-in-loop-i.ensures.value c.compare.ensures.0
          ∙ c.loop-i.invariant.0,
      set_same c.loop-i.theirs.items i y c.again-copy.new.self c.index_mut.ensures.value c.again-copy.ensures.0
          ∙ c.loop-i.invariant.1,
      rw add-one
          (take_agree mine theirs i c.loop-i.invariant.2 (x_at ∙ (one ∙ sym y_at))
          (omega (arith, c.requires.within.0, c.requires.mine_all))),
    )
