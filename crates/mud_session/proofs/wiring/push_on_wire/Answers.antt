use Rattle.std.proofs.Common.{◌≡◌, ◌++◌, ◌∷◌, [], List, ℕ, Result, Ok, Err, ap, sym, ◌∙◌}
use Rattle.std.specs.Prelude.{OnOk, is_ok, if◌then◌else◌}
use Rattle.std.specs.List.{flat_map}
use Rattle.mud_nvt.specs.declared.codes.TheConstants.{LF, CR}
use Rattle.mud_chron.proofs.Lined.{cut-at, line-whole}
use Rattle.mud_session.specs.inner.Wire.{on_wire}
use Rattle.mud_session.proofs.Widening.{line-more, line-wide}
use Rattle.mud_session.proofs.wiring.push_on_wire.Goals as goal

-- the text that was appended, if no allocation failed
appended : {A E : Type 0} (r : Result A E) (new out rest all : List ℕ)
    → new ≡ (if is_ok r then out ++ rest else out) → out ++ rest ≡ all → OnOk r (new ≡ all)
appended (Ok x) new out rest all is whole = is ∙ whole
appended (Err e) new out rest all is whole = tt

pub loop-at-preserved : goal.loop-at-preserved
loop-at-preserved c =
    let line : List ℕ = c.split_at.result.0.now in
    let ended : List ℕ = c.split_at.result.1.now in
    let cut =
    cut-at c.loop-at.rest.now line ended c.in-Some.at c.in-Some.ensures c.split_at.ensures.front
    c.split_at.ensures.back in
    let out : c.push_end.new.out.items ≡ (c.loop-at.out.items ++ line) ++ CR ∷ LF ∷ [] =
    c.in_ok-push_end.ensures
    ∙ ap (λ (x : List ℕ). x ++ CR ∷ LF ∷ []) c.in_ok-extend_from_slice.ensures.items in
    rw out (line-more c.loop-at.rest.now line ended c.loop-at.out.items cut.0 cut.1) ∙ c.loop-at.invariant

pub returns : goal.returns
returns c =
    let rest : List ℕ = c.loop-at.rest.now in
    let stays : flat_map on_wire rest ≡ rest = line-wide rest (line-whole rest c.in_default.ensures) in
    appended c.extend_from_slice-2.result c.extend_from_slice-2.new.self.items c.loop-at.out.items rest _
    c.extend_from_slice-2.ensures.items
    (ap (λ (x : List ℕ). c.loop-at.out.items ++ x) (sym stays) ∙ c.loop-at.invariant)
