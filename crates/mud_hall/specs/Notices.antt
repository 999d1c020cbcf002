-- The notices of entries that others made.
use Rattle.std.specs.Prelude.{ℕ, ◌+◌, List, [], ◌∷◌, ◌++◌, length, Option}
use Rattle.mud_world.specs.State.{State}
use Rattle.mud_world.specs.History.{world_of}
use Rattle.mud_rules.specs.HeardLine.{heard_line, notice_text}
use Rattle.mud_chron.specs.Entry.{Entry}
use Rattle.mud_chron.specs.Replay.{changes_of}
use Rattle.std.specs.Option.{option_map, option_and_then, option_to_list}

abbrev pub world_after : List Entry → State
world_after h = world_of (changes_of h)

-- the notice of the entry after a history for a player, if the player hears it
abbrev pub notice : Option ℕ → List Entry → Entry → List (List ℕ)
notice player h e =
    option_to_list (option_map (notice_text (length h + 1))
    (option_and_then (heard_line (world_after h) e.change) player))

-- the notices of the entries after a history, in order
abbrev pub notices : Option ℕ → List Entry → List Entry → List (List ℕ)
notices player h [] = []
notices player h (e ∷ entries) = notice player h e ++ notices player (h ++ e ∷ []) entries
