use Rattle.std.proofs.Common.{Err, ◌∙◌, sym, ap}
use Rattle.mud_rules.specs.declared.matching.Likeness.TheVariants.{Prefix}
use Rattle.mud_rules.specs.Matches.{candidates, or_else, sole_like}
use Rattle.mud_rules.proofs.Longer.{longer_only}
use Rattle.mud_rules.proofs.matching.near_match.Goals as goal

pub returns-in-Err-NoSuch : goal.returns-in-Err-NoSuch
returns-in-Err-NoSuch c =
    let w = c.args.world.now in
    let near = candidates w c.args.player in
    let none = sym c.in-Err-NoSuch.ensures ∙ ap Err c.in-Err-NoSuch.field-0-is in
    c.sole_near-in-Err-NoSuch.ensures ∙ longer_only w c.args.text.now near none
    ∙ sym (ap (λ first. or_else first (sole_like Prefix w c.args.text.now near)) none)
