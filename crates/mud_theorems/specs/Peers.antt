-- The other sides of connections, whose bytes a contract can name.
use Rattle.std.specs.Prelude.{◌≡◌, ℕ, Bool, true, false, List, [], ◌++◌, Option, IfSome, option_map}

-- all bytes that came from a peer, and all that it was sent; whether no more will come, and whether it takes no more
pub record Traffic : Type 0 where
  pub came : List ℕ
  pub sent : List ℕ
  pub has_ended : Bool
  pub has_left : Bool

-- these bytes come from the peer
abbrev pub with_input : List ℕ → Traffic → Traffic
with_input bytes t = record t { came = t.came ++ bytes }

-- no more will come
abbrev pub with_end : Traffic → Traffic
with_end t = record t { has_ended = true }

-- the peer is sent these bytes
abbrev pub with_output : List ℕ → Traffic → Traffic
with_output bytes t = record t { sent = t.sent ++ bytes }

-- the peer takes these last bytes, and no more
abbrev pub with_last : List ℕ → Traffic → Traffic
with_last bytes t = record t { sent = t.sent ++ bytes; has_left = true }

-- the traffic changes like this, if it is known
abbrev pub Becomes : (Traffic → Traffic) → Option Traffic → Option Traffic → Type 0
Becomes change old new = new ≡ option_map change old

-- the traffic of a peer that has just connected
abbrev pub no_traffic : Traffic
no_traffic = record { came = []; sent = []; has_ended = false; has_left = false }

abbrev pub IsFresh : Option Traffic → Type 0
IsFresh traffic = IfSome traffic (λ t. t ≡ no_traffic)
