use Rattle.std.proofs.Common.{◌≡◌, ◌≤◌, ◌+◌, ◌++◌, ◌∙◌, ℕ, List, sym, ap, subst, arith, length}
use Rattle.std.specs.Prelude.{string_bytes}
use Rattle.std.proofs.lemmas.Result.{on_ok_weaker, on_err_weaker}
use mathlib.Core.List.{IsPrefix}
use Rattle.mud_chron.specs.Entry.{Entry}
use Rattle.mud_row.specs.Known.{Known, lines_after}
use Rattle.mud_row.proofs.Notes.{any_err}
use Rattle.mud_row.proofs.Lines.{text_written, further}
use Rattle.mud_row.proofs.writing.push_text.Goals as goal

pub loop-n-preserved : goal.loop-n-preserved
loop-n-preserved c =
    let n : ℕ = c.loop-n.n in
    let same : c.loop-n.pass ≡ c.args.pass.now = c.loop-n.invariant.pass in
    let mid : List ℕ = string_bytes c.loop-n.out in
    let new : List ℕ = string_bytes c.write_line.new.out in
    record {
      pass = c.write_line.ensures.same ∙ same;
      text = subst (λ (p : Known). new ++ lines_after (n + 1) p.list ≡ mid ++ lines_after n p.list) same
          c.in_ok-write_line.ensures.ok ∙ c.loop-n.invariant.text;
      longer = further (string_bytes c.args.out.now) mid new c.loop-n.invariant.longer
          c.in_ok-write_line.ensures.longer;
    }

pub returns-in_err-write_line-clause-err : goal.returns-in_err-write_line-clause-err
returns-in_err-write_line-clause-err c =
    any_err c.from_residual-in_err-write_line.result
    (IsPrefix (string_bytes c.args.out.now) (string_bytes c.write_line.new.out))
    (subst (IsPrefix (string_bytes c.args.out.now)) (sym c.in_err-write_line.ensures.err) c.loop-n.invariant.longer)

pub returns-clause-err : goal.returns-clause-err
returns-clause-err c =
    on_err_weaker c.write_end.result
    (λ same. subst (IsPrefix (string_bytes c.args.out.now)) (sym same) c.loop-n.invariant.longer)
    c.write_end.ensures.err

pub returns-clause-ok : goal.returns-clause-ok
returns-clause-ok c =
    let es : List Entry = c.args.pass.now.list in
    let same : c.loop-n.pass ≡ c.args.pass.now = c.loop-n.invariant.pass in
    let past : length es ≤ c.loop-n.n = omega arith in
    on_ok_weaker c.write_end.result
    (λ is. text_written es c.loop-n.n c.known.result (string_bytes c.args.out.now) (string_bytes c.loop-n.out)
    (string_bytes c.write_end.new.out) c.loop-n.invariant.text past
    (c.known.ensures.known ∙ ap (λ (p : Known). length p.list) same) is)
    c.write_end.ensures.ok
