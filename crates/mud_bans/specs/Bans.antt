-- Lists of bans, and their file.
use Rattle.std.specs.Prelude.{ℕ, ◌++◌, List, flat_map, codes, remove, Option}
use Rattle.std.specs.Option.{option_map_or}
use Rattle.std.specs.List.{position}
use Rattle.mud_bans.specs.declared.network.Network.{Network}
use Rattle.mud_bans.specs.Network.{is_same, network_text}

-- the text of the file: one network a line
abbrev pub bans_text : List Network → List ℕ
bans_text nets = flat_map (λ net. network_text net ++ codes "\n") nets

-- the index of the first network that equals this one
abbrev pub place_of : List Network → Network → Option ℕ
place_of nets net = position (λ other. is_same other net) nets

-- the networks without the first that equals this one
abbrev pub without : List Network → Network → List Network
without nets net = option_map_or (remove nets) (place_of nets net) nets
