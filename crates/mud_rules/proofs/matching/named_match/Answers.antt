use Rattle.std.proofs.Common.{Err, ◌∙◌, sym, ap}
use Rattle.std.specs.Prelude.{filter}
use Rattle.std.specs.List.{range_with_len}
use Rattle.mud_rules.specs.declared.matching.Likeness.TheVariants.{Prefix}
use Rattle.mud_rules.specs.Matches.{or_else, sole_like}
use Rattle.mud_rules.specs.inner.Matches.{is_sort}
use Rattle.mud_rules.proofs.Longer.{longer_only}
use Rattle.mud_rules.proofs.matching.named_match.Goals as goal

pub returns-in-Err-NoSuch : goal.returns-in-Err-NoSuch
returns-in-Err-NoSuch c =
    let w = c.args.world.now in
    let all = filter (is_sort c.args.sort w) (range_with_len 0 w.next) in
    let none = sym c.in-Err-NoSuch.ensures ∙ ap Err c.in-Err-NoSuch.field-0-is in
    c.sole_of_sort-in-Err-NoSuch.ensures ∙ longer_only w c.args.text.now all none
    ∙ sym (ap (λ first. or_else first (sole_like Prefix w c.args.text.now all)) none)
