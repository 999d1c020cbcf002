-- A text has at most one network.
use Rattle.std.proofs.Common.{◌≡◌, ℕ, List, Option, Some, None, Result, Ok, Err, sym, subst, ◌∙◌}
use Rattle.std.specs.Option.{IfNone}
use Rattle.std.specs.Result.{result_ok}
use Rattle.std.specs.Net.Grammar.{Parses, IsIpText}
use Rattle.std.specs.declared.net.ip_addr.IpAddr.{IpAddr}
use Rattle.std.proofs.NetLemmas.Theorems.{IsIpText_unique}
use Rattle.mud_bans.specs.declared.network.Network.{Network}
use Rattle.mud_bans.specs.Address.{IsNetwork, width}
use Rattle.mud_bans.specs.Number.{IsNumber}

-- if the address and the number of bits of two texts make no network, no other network has these texts
pub no_part : (text digits : List ℕ) (address : IpAddr) (bits : ℕ) → IsIpText text address → IsNumber digits bits
    → ¬ (IsNetwork address bits)
    → (net : Network) → IsIpText text net.address → IsNumber digits net.bits → ¬ (IsNetwork net.address net.bits)
no_part text digits address bits is many none net its its_many sound =
    let same : net.address ≡ address = IsIpText_unique text net.address address its is in
    let same_bits : net.bits ≡ bits = sym its_many.0.1 ∙ many.0.1 in
    none (subst (λ (a : IpAddr). IsNetwork a bits) same (subst (IsNetwork net.address) same_bits sound))

pub no_whole : (text : List ℕ) (address : IpAddr) → IsIpText text address → ¬ (IsNetwork address (width address))
    → (net : Network) → IsIpText text net.address → net.bits ≡ width net.address
    → ¬ (IsNetwork net.address net.bits)
no_whole text address is none net its whole sound =
    let same : net.address ≡ address = IsIpText_unique text net.address address its is in
    none (subst (λ (a : IpAddr). IsNetwork a (width a)) same (subst (IsNetwork net.address) whole sound))

-- the parsed value is the one that the text spells
pub spelled : {A E : Type 0} (Spells : List ℕ → A → Type 0) (text : List ℕ) (r : Result A E) (a : A)
    → Parses Spells text r → result_ok r ≡ Some a → Spells text a
spelled Spells text (Ok b) a parsed is = let same : b ≡ a = cc in subst (Spells text) same parsed
spelled Spells text (Err e) a parsed is = absurd (cc)

pub if_none : {T : Type 0} (o : Option T) (P Q : Type 0) → (P → Q) → IfNone o P → IfNone o Q
if_none None P Q f p = f p
if_none (Some x) P Q f p = p
