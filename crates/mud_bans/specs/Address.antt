-- The bits of an address.
use Rattle.std.specs.Prelude.{◌≡◌, ℕ, ◌-◌, ◌/◌, ◌%◌, ◌^◌, ◌≤◌, Bool, true, false}
use Rattle.std.specs.declared.net.ip_addr.IpAddr.{IpAddr}
use Rattle.std.specs.declared.net.ip_addr.IpAddr.TheVariants.{V4, V6}
use Rattle.std.specs.Net.Addr.{ipv4_bits, ipv6_bits, ipv6_segments, MatchIp, IsIpv4Mapped}

-- the number of bits of an address, by its family
abbrev pub width : IpAddr → ℕ
width (V4 a) = 32
width (V6 a) = 128

-- two addresses are of one family
abbrev pub same_family : IpAddr → IpAddr → Bool
same_family (V4 a) (V4 b) = true
same_family (V6 a) (V6 b) = true
same_family (V4 a) (V6 b) = false
same_family (V6 a) (V4 b) = false

-- the bits of an address as a number
abbrev pub bits_of : IpAddr → ℕ
bits_of (V4 a) = ipv4_bits a
bits_of (V6 a) = ipv6_bits a

-- the first bits of an address as a number
abbrev pub front : (count : ℕ) → IpAddr → ℕ
front count a = bits_of a / 2 ^ (width a - count)

-- an address that is not IPv4-mapped
abbrev pub IsCanonical : IpAddr → Type 0
IsCanonical a = MatchIp a (λ _. Unit {0}) (λ v6. ¬ (IsIpv4Mapped (ipv6_segments v6)))

-- a network with this first address and this number of bits: the bits after them are zero, and the address is not
-- IPv4-mapped
pub record IsNetwork (address : IpAddr) (bits : ℕ) : Type 0 where
  pub within : bits ≤ width address
  pub rest : bits_of address % 2 ^ (width address - bits) ≡ 0
  pub canonical : IsCanonical address
