use Rattle.std.proofs.Common.{◌≡◌, ◌≤◌, length, List, ℕ, arith, ◌∙◌, ap, refl, subst}
use Rattle.mud_world.specs.State.{State}
use Rattle.mud_world.specs.History.{world_of}
use Rattle.mud_chron.specs.Replay.{changes_of, AreLegal}
use Rattle.mud_renumber.specs.Numbers.{number_at}
use Rattle.mud_renumber.specs.Renumbered.{IsRenumbered}
use Rattle.mud_renumber.proofs.renumbering.checked.Goals as goal

pub returns : goal.returns
returns c =
    let entries = c.args.draft.entries.items in
    let world : c.in-Ok.other ≡ world_of (changes_of entries) =
    c.in-Ok.ensures.world ∙ ap (λ es. world_of (changes_of es)) c.deref.ensures.value in
    record {
      legal = subst (λ es. AreLegal (changes_of es)) c.deref.ensures.value c.in-Ok.ensures.legal;
      renumbered =
          subst (λ (u : State). IsRenumbered (number_at c.args.draft.numbers.items) c.args.world.now u) world
          (subst (λ (ns : List ℕ). IsRenumbered (number_at ns) c.args.world.now c.in-Ok.other) c.deref-2.ensures.value
          (c.if-not-is_renumbered.ensures refl));
      next_is = c.next_number-3.ensures.next ∙ ap (λ (u : State). u.next) world;
      few = omega arith;
    }
