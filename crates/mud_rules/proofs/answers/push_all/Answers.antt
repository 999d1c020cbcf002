use Rattle.std.proofs.Common.{◌≡◌, ◌++◌, subst, string_bytes}
use Rattle.std.specs.Prelude.{OnOk}
use Rattle.mud_rules.proofs.Listed.{all_shown}
use Rattle.mud_rules.proofs.answers.push_all.Goals as goal

pub returns : goal.returns
returns c =
    let shown =
    all_shown c.args.world.now c.args.numbers.now in
    subst
    (λ listed. OnOk c.push_listed.result (string_bytes c.push_listed.new.text ≡ string_bytes c.args.text.now ++ listed))
    shown c.push_listed.ensures
