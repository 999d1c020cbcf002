use Rattle.std.proofs.Common.{sym, ◌∙◌}
use Rattle.std.specs.Net.Grammar.{IsIpText}
use Rattle.mud_bans.proofs.Unique.{no_part, spelled, if_none}
use Rattle.mud_bans.proofs.network.Network.part.Goals as goal

pub returns-in_err-bits-clause-none : goal.returns-in_err-bits-clause-none
returns-in_err-bits-clause-none c =
    rw c.from_residual-in_err-bits.ensures (λ net its many canonical. c.in_err-bits.ensures.none net.bits many)

pub returns-clause-none : goal.returns-clause-none
returns-clause-none c =
    let is = spelled IsIpText c.args.text.now c.parse.result c.in_ok-address.address c.parse.ensures.value
    (sym c.ok.ensures.value ∙ c.in_ok-address.was) in
    if_none c.network_of.result _ _
    (no_part c.args.text.now c.args.bits.now c.in_ok-address.address c.in_ok-bits.bits is c.in_ok-bits.ensures.some)
    c.network_of.ensures.none
