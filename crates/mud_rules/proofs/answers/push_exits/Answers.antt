use Rattle.std.proofs.Common.{◌≡◌, ◌++◌, ◌∙◌, ap, subst, codes, string_bytes}
use Rattle.std.specs.Prelude.{OnOk}
use Rattle.mud_rules.specs.ObjectLists.{listed_under}
use Rattle.mud_rules.proofs.Listed.{exits_shown}
use Rattle.mud_rules.proofs.answers.push_exits.Goals as goal

pub returns : goal.returns
returns c =
    let shown =
    exits_shown c.args.world.now c.leaving.result.now
    ∙ ap (listed_under c.args.world.now (codes "exits ")) c.leaving.ensures in
    subst
    (λ listed. OnOk c.push_listed.result (string_bytes c.push_listed.new.text ≡ string_bytes c.args.text.now ++ listed))
    shown c.push_listed.ensures
