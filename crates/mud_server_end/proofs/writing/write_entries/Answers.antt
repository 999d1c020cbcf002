use Rattle.std.proofs.Common.{◌≤◌, ◌∙◌, ◌+◌, ℕ, List, [], Option, length, take, refl, ap, subst, arith}
use Rattle.std.specs.Prelude.{string_bytes}
use Rattle.std.specs.Io.KnownBytes.{Appends}
use Rattle.std.proofs.lemmas.Result.{on_ok_weaker, on_err_weaker}
use Rattle.mud_chron.specs.Entry.{Entry}
use Rattle.mud_chron.specs.inner.Texts.{written_text}
use Rattle.mud_server_end.proofs.Written.{any_err}
use Rattle.mud_server_end.proofs.Pieces.{IsOnWay, left, begun, line_at, piece_written, end_added, stopped, cut, ended}
use Rattle.mud_server_end.proofs.writing.write_entries.Given.{Over}
use Rattle.mud_server_end.proofs.writing.write_entries.Goals.{then-len-ge-PIECE_LEN+in_ok-write, else-len-ge-PIECE_LEN}
use Rattle.mud_server_end.proofs.writing.write_entries.Goals.{In_ok-write_line, In_ok-write_end}
use Rattle.mud_server_end.proofs.writing.write_entries.Goals as goal

pub loop-n-init : goal.loop-n-init
loop-n-init g c = record {
  history = refl;
  way = begun c.args.out.now.holds c.args.history.now (string_bytes c.in_ok-text.text)
      (c.in_ok-text.ensures.ok ∙ c.first_line.ensures);
}

-- the piece has the line of this entry
line_stands : (g : Over) (c : In_ok-write_line g)
    → IsOnWay c.args.out.now.holds c.loop-n.out.holds (written_text c.args.history.now)
    (string_bytes c.write_line.new.out) (left (c.loop-n.n + 1) c.args.history.now)
line_stands g c =
    line_at c.args.out.now.holds c.loop-n.out.holds c.loop-n.history c.args.history.now c.loop-n.n
    (string_bytes c.loop-n.text) (string_bytes c.write_line.new.out) c.loop-n.invariant.history
    c.loop-n.invariant.way c.in_ok-write_line.ensures.ok

pub loop-n-preserved : goal.loop-n-preserved
loop-n-preserved g c =
    let line = line_stands g (goal.at.loop-n-preserved g c).In_ok-write_line in
    record {
      history = c.write_line.ensures.same ∙ c.loop-n.invariant.history;
      way = elim c.if-len-ge-PIECE_LEN.branch [
        | then-len-ge-PIECE_LEN+in_ok-write w ↦
            rw (w.out-is, w.text-is)
            (piece_written _ c.loop-n.out.holds w.write.new.out.holds _ _ (string_bytes w.clear.new.self) _ line
            (subst (Appends c.loop-n.out.holds w.write.new.out.holds) w.as_bytes.ensures.value
            w.in_ok-write.ensures.ok)
            w.clear.ensures.bytes)
        | else-len-ge-PIECE_LEN w ↦ rw (w.out-is, w.text-is) line
      ];
    }

pub returns-in_err-write_line-clause-front : goal.returns-in_err-write_line-clause-front
returns-in_err-write_line-clause-front g c =
    any_err c.from_residual-in_err-write_line.result (stopped _ _ _ _ _ c.loop-n.invariant.way)

pub returns-in_err-write-clause-front : goal.returns-in_err-write-clause-front
returns-in_err-write-clause-front g c =
    let mid : Option (List ℕ) = c.loop-n.out.holds in
    let now_held : Option (List ℕ) = c.write.new.out.holds in
    let front = c.in_err-write.ensures.front in
    any_err c.from_residual-in_err-write.result
    (cut _ mid now_held _ _ _ front.0 (line_stands g (goal.at.returns-in_err-write-clause-front g c).In_ok-write_line)
    (subst (λ (l : List ℕ). Appends mid now_held (take front.0 l)) c.as_bytes.ensures.value front.1))

pub returns-in_err-write_end-clause-front : goal.returns-in_err-write_end-clause-front
returns-in_err-write_end-clause-front g c =
    any_err c.from_residual-in_err-write_end.result (stopped _ _ _ _ _ c.loop-n.invariant.way)

-- the piece has the last line
end_stands : (g : Over) (c : In_ok-write_end g)
    → IsOnWay c.args.out.now.holds c.loop-n.out.holds (written_text c.args.history.now)
    (string_bytes c.write_end.new.out) []
end_stands g c =
    let h : List Entry = c.args.history.now in
    let past : length h ≤ c.loop-n.n = omega (arith, c.len-n-end.ensures.len, c.loop-n-test.false) in
    end_added c.args.out.now.holds c.loop-n.out.holds h c.loop-n.n c.len-2.result (string_bytes c.loop-n.text)
    (string_bytes c.write_end.new.out) c.loop-n.invariant.way past
    (c.len-2.ensures.len ∙ ap (λ (l : List Entry). length l) c.loop-n.invariant.history)
    c.in_ok-write_end.ensures.ok

pub returns-clause-ok : goal.returns-clause-ok
returns-clause-ok g c =
    let way = end_stands g (goal.at.returns-clause-ok g c).In_ok-write_end in
    let mid : Option (List ℕ) = c.loop-n.out.holds in
    let now_held : Option (List ℕ) = c.write-2.new.out.holds in
    on_ok_weaker c.write-2.result
    (λ (one : Appends mid now_held c.as_bytes-2.result.now). ended _ mid now_held _ _ way
    (subst (Appends mid now_held) c.as_bytes-2.ensures.value one))
    c.write-2.ensures.ok

pub returns-clause-front : goal.returns-clause-front
returns-clause-front g c =
    let way = end_stands g (goal.at.returns-clause-front g c).In_ok-write_end in
    let mid : Option (List ℕ) = c.loop-n.out.holds in
    let now_held : Option (List ℕ) = c.write-2.new.out.holds in
    on_err_weaker c.write-2.result
    (λ (front : (m : ℕ) × Appends mid now_held (take m c.as_bytes-2.result.now)). cut _ mid now_held _ _ _ front.0 way
    (subst (λ (l : List ℕ). Appends mid now_held (take front.0 l)) c.as_bytes-2.ensures.value front.1))
    c.write-2.ensures.front
