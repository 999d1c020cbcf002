-- A desk on the way to its player.
use Rattle.std.specs.Prelude.{◌≡◌, ◌⊎◌, ℕ, List}
use Rattle.mud_words.specs.Parse.{parse_of}
use Rattle.mud_hall.specs.Desk.{DeskState}
use Rattle.mud_hall.specs.Replies.{Reply, Acts}
use Rattle.mud_hall.specs.Steps.{connect_text}

-- the desk acts on a line that connects a player, or stays as it was
abbrev pub Connects : ℕ → (old new : DeskState) → Type 0
Connects capacity old new =
    (new ≡ old) ⊎ ((name : List ℕ) × (reply : Reply) × Acts capacity old (parse_of (connect_text name)) reply new)
