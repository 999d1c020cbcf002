-- Reading proceeds line by line, and ends at the whole text or at a bad line.
use Rattle.std.proofs.Common.{◌≡◌, ◌<◌, ◌+◌, ◌∷◌, length, None, Some, ap, arith, length-append, ◌∙◌}
use Rattle.std.proofs.lemmas.Grind.{common_steps}
use Rattle.std.proofs.lemmas.List.{nil_from_length}
use Rattle.mud_key.specs.declared.codes.TheConstants.{LF}
use Rattle.mud_cert.specs.declared.stage.Stage.TheVariants.{Whole}
use Rattle.mud_cert.specs.inner.Stages.{next}
use Rattle.mud_cert.proofs.Progress.{reads-start, reads-more, reads-few, line-some, reads-refused, reads-unended}
use Rattle.mud_cert.proofs.Progress.{reads-whole, told}
use Rattle.mud_cert.proofs.reading.read.Goals as goal

pub loop-line-init : goal.loop-line-init
loop-line-init c = reads-start c.args.bytes.now

pub loop-line-preserved : goal.loop-line-preserved
loop-line-preserved c =
    let e : next c.loop-line.stage c.in-Some.line.now ≡ Some c.in-Some-2.next = grind (arith, common_steps) in
    reads-more c.args.bytes.now c.loop-line.rest.now c.loop-line.number c.loop-line.stage c.in-Some-2.next
    c.in-Some.line.now c.in-Some.behind.now c.loop-line.invariant
    c.in-Some.ensures.found.0 c.in-Some.ensures.found.1 e

pub returns-in_default-2-clause-fault : goal.returns-in_default-2-clause-fault
returns-in_default-2-clause-fault c = λ n.
    let e : next c.loop-line.stage c.in-Some.line.now ≡ None = grind (arith, common_steps) in
    told c.args.bytes.now c.loop-line.number n
    (reads-refused c.args.bytes.now c.loop-line.rest.now c.loop-line.number c.loop-line.stage c.in-Some.line.now
    c.in-Some.behind.now c.loop-line.invariant c.in-Some.ensures.found.0 c.in-Some.ensures.found.1 e)

pub overflow_add-number : goal.overflow_add-number
overflow_add-number c =
    let few = reads-few c.args.bytes.now c.loop-line.rest.now c.loop-line.number
    c.loop-line.stage c.loop-line.invariant in
    let rest : length c.loop-line.rest.now ≡ length c.in-Some.line.now + length (LF ∷ c.in-Some.behind.now) =
    ap length c.in-Some.ensures.found.1 ∙ length-append c.in-Some.line.now (LF ∷ c.in-Some.behind.now) in
    let e : next c.loop-line.stage c.in-Some.line.now ≡ Some c.in-Some-2.next = grind (arith, common_steps) in
    omega (arith, line-some c.loop-line.stage c.in-Some-2.next c.in-Some.line.now e)

pub returns-then-is_empty-clause-found : goal.returns-then-is_empty-clause-found
returns-then-is_empty-clause-found c =
    let none : length c.loop-line.rest.now ≡ 0 = grind (arith, common_steps) in
    let empty = nil_from_length c.loop-line.rest.now none in
    let whole : c.loop-line.stage ≡ Whole c.in-Whole.cert = grind (arith, common_steps) in
    reads-whole c.args.bytes.now c.loop-line.rest.now c.loop-line.number c.in-Whole.cert
    (rw whole at c.loop-line.invariant) empty

pub returns-in-Whole-clause-fault : goal.returns-in-Whole-clause-fault
returns-in-Whole-clause-fault c = λ n.
    let some : 0 < length c.loop-line.rest.now = grind (arith, common_steps) in
    told c.args.bytes.now c.loop-line.number n
    (reads-unended c.args.bytes.now c.loop-line.rest.now c.loop-line.number c.loop-line.stage
    c.loop-line.invariant c.in_default.ensures.none
    (λ d w h. absurd (omega (arith, ap length h))))

pub returns : goal.returns
returns c = record {
  found = tt;
  fault = λ n. told c.args.bytes.now c.loop-line.number n
      (reads-unended c.args.bytes.now c.loop-line.rest.now c.loop-line.number c.loop-line.stage c.loop-line.invariant
      c.in_default.ensures.none (λ d w h. c.in_default-stage.not-Whole d w));
}
