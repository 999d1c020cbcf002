use Rattle.std.proofs.Common.{◌≡◌, ◌++◌, ◌∙◌, ap, subst, not, filter, codes, string_bytes}
use Rattle.std.specs.Prelude.{OnOk}
use Rattle.mud_world.specs.State.{is_number}
use Rattle.mud_rules.specs.ObjectLists.{listed_under}
use Rattle.mud_rules.proofs.Listed.{contents_shown}
use Rattle.mud_rules.proofs.answers.push_contents.Goals as goal

pub returns : goal.returns
returns c =
    let shown =
    contents_shown c.args.world.now (filter (λ o. not (is_number o c.args.player)) c.contents.result.now)
    ∙ ap (λ ns. listed_under c.args.world.now (codes "contents ") (filter (λ o. not (is_number o c.args.player)) ns))
    c.contents.ensures in
    subst
    (λ listed. OnOk c.push_listed.result (string_bytes c.push_listed.new.text ≡ string_bytes c.args.text.now ++ listed))
    shown c.push_listed.ensures
