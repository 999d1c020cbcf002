-- Laws of the definitions.
use Rattle.std.specs.Prelude.{List}
use Rattle.mud_chron.specs.Entry.{Entry}
use Rattle.mud_chron.specs.Replay.{changes_of, AreLegal}
use Rattle.mud_compact.specs.Shorter.{without_talk, LeadsToSame}

-- talk never changes a world
abbrev pub TalkChangesNothing : Type 0
TalkChangesNothing =
    (entries : List Entry) → AreLegal (changes_of entries) → LeadsToSame entries (without_talk entries)
