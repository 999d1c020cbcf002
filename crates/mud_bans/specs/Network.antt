-- Networks of addresses, and their texts.
use Rattle.std.specs.Prelude.{◌≡◌, ℕ, ◌++◌, ◌==◌, ◌&&◌, Bool, MatchOption, List, [], codes, decimal, if◌then◌else◌}
use Rattle.std.specs.List.{position, before_first, after_first}
use Rattle.std.specs.Net.Grammar.{IsIpText}
use Rattle.std.specs.Net.Text.{ip_text}
use Rattle.std.specs.declared.net.ip_addr.IpAddr.{IpAddr}
use Rattle.mud_bans.specs.Number.{IsNumber}
use Rattle.mud_bans.specs.Address.{width, bits_of, same_family, front, IsNetwork}
use Rattle.mud_bans.specs.declared.network.Network.{Network}

-- two networks are equal: their addresses and their numbers of bits are
abbrev pub is_same : Network → Network → Bool
is_same one other =
    same_family one.address other.address && (bits_of one.address == bits_of other.address) && (one.bits == other.bits)

-- a network contains an address: it is of the same family, and begins with the same bits
abbrev pub covers : Network → IpAddr → Bool
covers net a =
    same_family a net.address && (front net.bits a == front net.bits net.address)

-- the byte `/`, which comes before a number of bits
abbrev pub is_slash : ℕ → Bool
is_slash b = b == 47

-- the text is an address whose bits all count, or an address, `/` and the number of bits that count
abbrev pub SpellsNetwork : List ℕ → (address : IpAddr) (bits : ℕ) → Type 0
SpellsNetwork text address bits =
    MatchOption (position is_slash text)
    (IsIpText text address × (bits ≡ width address))
    (λ _. IsIpText (before_first is_slash text) address × IsNumber (after_first is_slash text) bits)

-- this network has this text
abbrev pub IsNetworkText : List ℕ → Network → Type 0
IsNetworkText text net = SpellsNetwork text net.address net.bits × IsNetwork net.address net.bits

-- the text with which the code writes a network
abbrev pub network_text : Network → List ℕ
network_text net =
    ip_text net.address ++ (if net.bits == width net.address then [] else codes "/" ++ decimal net.bits)
