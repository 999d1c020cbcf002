use Rattle.std.proofs.Common.{◌≡◌, ◌∙◌, ◌+◌, ◌++◌, ◌∷◌, [], List, ℕ, Option, Some, None, sym, ap, subst, arith}
use Rattle.std.proofs.Common.{length, take, length-take, length-append}
use Rattle.mud_world.specs.declared.record.Record.{Record}
use Rattle.mud_world.specs.Sound.{IsRising}
use Rattle.mud_world.specs.inner.Slots.{entries_of}
use Rattle.mud_world.proofs.Numbered.{one-empty, one-more, cut-slots}
use Rattle.mud_world.proofs.slots.Slots.put.Goals as goal

pub loop-preserved : goal.loop-preserved
loop-preserved c = record {
  same = ap entries_of c.in_ok-push.ensures.items ∙ one-empty c.loop.self-inside.slots.items ∙ c.loop.invariant.same;
  count = ap length c.in_ok-push.ensures.items ∙ length-append c.loop.self-inside.slots.items (None ∷ [])
      ∙ ap (λ n. n + 1) c.loop.invariant.count;
}

pub returns-clause-ok : goal.returns-clause-ok
returns-clause-ok c =
    let slots : List (Option Record) = c.loop.self-inside.slots.items in
    let k = c.args.number in
    let was : entries_of slots ≡ c.args.self.now = c.loop.invariant.same ∙ c.self.view_is in
    let front : entries_of (take k slots) ≡ c.args.self.now =
    cut-slots k slots (subst (λ (es : List (ℕ × Record)). IsRising 0 es k) (sym was) c.requires) ∙ was in
    let count : k ≡ length (take k slots) =
    omega (arith, length-take {A = Option Record}, c.loop.invariant.count, c.loop-test.false) in
    ap entries_of (c.in_ok-push-2.ensures.items
    ∙ ap (λ (s : List (Option Record)). s ++ Some c.args.object ∷ []) c.truncate.ensures.items)
    ∙ one-more k c.args.object (take k slots) count
    ∙ ap (λ es. es ++ (k, c.args.object) ∷ []) front
