-- The address that stands for a host.
use Rattle.std.specs.Prelude.{◌≡◌, ◌++◌, List, [], ◌∷◌, take}
use Rattle.std.specs.declared.net.ip_addr.IpAddr.{IpAddr}
use Rattle.std.specs.declared.net.ip_addr.IpAddr.TheVariants.{V4, V6}
use Rattle.std.specs.Net.Addr.{ipv6_segments}

-- an IPv4 address stands for itself, and one of IPv6 is replaced by the first address of its network of 64 bits
abbrev pub IsHost : IpAddr → IpAddr → Type 0
IsHost (V4 a) host = host ≡ V4 a
IsHost (V6 a) (V4 host) = ⊥
IsHost (V6 a) (V6 host) = ipv6_segments host ≡ take 4 (ipv6_segments a) ++ 0 ∷ 0 ∷ 0 ∷ 0 ∷ []
