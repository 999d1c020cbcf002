use Rattle.std.proofs.Common.{sym, subst, ◌∙◌}
use Rattle.std.specs.Net.Grammar.{IsIpText}
use Rattle.mud_bans.specs.Address.{IsNetwork}
use Rattle.mud_bans.proofs.Unique.{no_whole, spelled, if_none}
use Rattle.mud_bans.proofs.network.Network.whole.Goals as goal

pub returns-clause-none : goal.returns-clause-none
returns-clause-none c =
    let address = c.in_ok-address.address in
    let is = spelled IsIpText c.args.text.now c.parse.result address c.parse.ensures.value
    (sym c.ok.ensures.value ∙ c.in_ok-address.was) in
    if_none c.network_of.result _ _
    (λ none. no_whole c.args.text.now address is
    (λ sound. none (subst (IsNetwork address) (sym c.width.ensures) sound)))
    c.network_of.ensures.none
