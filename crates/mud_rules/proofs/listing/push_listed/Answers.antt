use Rattle.std.proofs.Common.{List, ℕ, not, ◌++◌, ◌∙◌, sym, ap, string_bytes}
use Rattle.std.specs.Prelude.{codes, if◌then◌else◌}
use Rattle.mud_world.specs.State.{is_number}
use Rattle.mud_rules.proofs.Listed.{joined_one, list_one, list_past}
use Rattle.mud_rules.proofs.listing.push_listed.Goals as goal

pub loop-number-preserved-then-is_player : goal.loop-number-preserved-then-is_player
loop-number-preserved-then-is_player c =
    let lead : List ℕ = if c.loop-number.is_first then c.args.heading.now else codes ", " in
    sym (ap (λ l. string_bytes c.loop-number.text ++ l)
    (list_past (λ o. not (is_number o c.args.player)) lead c.args.world.now c.args.numbers.now
    c.loop-number.number-index c.loop-number-test.true (ap not (sym c.if-is_player.ensures))))
    ∙ c.loop-number.invariant

pub loop-number-preserved : goal.loop-number-preserved
loop-number-preserved c =
    let lead : List ℕ = if c.loop-number.is_first then c.args.heading.now else codes ", " in
    joined_one _ _ _ _ _ _ c.in_ok-push_lead.ensures c.in_ok-push_entry.ensures
    ∙ sym (ap (λ l. string_bytes c.loop-number.text ++ l)
    (list_one (λ o. not (is_number o c.args.player)) lead c.args.world.now c.args.numbers.now
    c.loop-number.number-index c.loop-number-test.true (ap not (sym c.if-is_player.ensures))))
    ∙ c.loop-number.invariant
