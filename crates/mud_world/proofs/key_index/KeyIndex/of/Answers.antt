use Rattle.std.proofs.Common.{◌∙◌, ◌<◌, ◌≤◌, arith, sym, ap, ⊎_elim}
use Rattle.std.specs.Prelude.{is_none}
use Rattle.std.specs.Option.{option_and_then}
use Rattle.std.proofs.lemmas.Bool.{cases_lt, true≢false}
use Rattle.mud_world.specs.State.{has, record_at}
use Rattle.mud_world.proofs.Records.{bool_cases}
use Rattle.mud_world.proofs.Carrying.{has-above, get_or-past, missing-above}
use Rattle.mud_world.proofs.Written.{keyless-key}
use Rattle.mud_world.proofs.key_index.KeyIndex.of.Goals as goal

pub returns : goal.returns
returns c =
    let w = c.args.world.now in
    let next = c.next_number-next.ensures.next in
    let sound = c.next_number-next.ensures.sound in
    let inv = c.loop-object.invariant in
    let long = inv.0 in
    let done = c.loop-object-test.false in
    record {
      long = omega (arith, long, next, done);
      plain = λ o.
          ⊎_elim
          (λ (lt : o < c.loop-object.object). inv.1 o lt)
          (λ (le : c.loop-object.object ≤ o). get_or-past c.loop-object.keyless.items o (omega (arith, le, long))
          ∙ sym (has-above w sound o (omega (arith, le, next, done)) _))
          (cases_lt o c.loop-object.object);
      keyless = λ o none.
          ⊎_elim
          (λ (lt : o < c.loop-object.object).
          bool_cases (has w o (λ r. is_none r.key))
          (λ is. keyless-key (record_at w o) is)
          (λ not. absurd (true≢false (sym (inv.2 o lt not) ∙ none))))
          (λ (le : c.loop-object.object ≤ o). ap (λ v. is_none (option_and_then (λ r. r.key) v))
          (missing-above w sound o (omega (arith, le, next, done))))
          (cases_lt o c.loop-object.object);
    }
