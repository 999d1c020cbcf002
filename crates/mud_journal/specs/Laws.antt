-- Laws of the definitions: the contents after a crash, and the journal found in them.
use Rattle.std.specs.Prelude.{◌≡◌, ◌≤◌, ◌+◌, ℕ, List, ◌++◌, length}
use mathlib.Core.List.{IsPrefix}
use Rattle.mud_chron.specs.declared.format.Format.TheVariants.{Two}
use Rattle.mud_chron.specs.Entry.{Entry}
use Rattle.mud_chron.specs.Text.{journal_text}
use Rattle.mud_chron.specs.History.{AreEntriesOf}
use Rattle.mud_journal.specs.Crash.{AreAny, IsLeftOf, IsLeftBy}
use Rattle.mud_journal.specs.Found.{Finds}
use Rattle.mud_journal.specs.OpenFaults.{IsRefusedAs}
use Rattle.mud_journal.specs.declared.fault.OpenFault.{OpenFault}
use Rattle.mud_journal.specs.declared.fault.OpenFault.TheVariants.{OutOfMemory, Whole, Line, TooLong}

-- recovering a journal after a crash fails only if memory runs out
abbrev pub IsAlwaysRead : Type 0
IsAlwaysRead =
    (bytes : List ℕ) (synced added : List Entry) (fault : OpenFault) → IsLeftOf bytes synced added
    → IsRefusedAs bytes fault → fault ≡ OutOfMemory

-- recovery after a crash finds every synced entry, and only written ones
abbrev pub NothingIsLost : Type 0
NothingIsLost =
    (bytes : List ℕ) (synced added got : List Entry) (torn : ℕ) → IsLeftOf bytes synced added → Finds bytes got torn
    → IsPrefix synced got × IsPrefix got (synced ++ added)

-- memory ran out, or a line after the lines of this many entries is bad or one too many; or they are a whole history,
-- with its last line after them
abbrev pub IsRefusedBehind : ℕ → OpenFault → Type 0
IsRefusedBehind count OutOfMemory = Unit {0}
IsRefusedBehind count Whole = Unit {0}
IsRefusedBehind count TooLong = Unit {0}
IsRefusedBehind count (Line n) = count + 2 ≤ n
IsRefusedBehind count other = ⊥

-- If any bytes follow the text of a journal: a readable text begins with the journal's entries, and whatever is wrong
-- comes after all their lines.
abbrev pub WhateverFollows : Type 0
WhateverFollows =
    (synced : List Entry) (bytes : List ℕ) → AreEntriesOf Two synced → IsPrefix (journal_text Two synced) bytes
    → ((got : List Entry) (torn : ℕ) → Finds bytes got torn → IsPrefix synced got)
    × ((fault : OpenFault) → IsRefusedAs bytes fault → IsRefusedBehind (length synced) fault)

-- likewise, whatever a crash leaves on a disk of any kind
abbrev pub OnAnyDisk : Type 0
OnAnyDisk =
    (bytes : List ℕ) (synced added : List Entry) → IsLeftBy AreAny bytes synced added
    → ((got : List Entry) (torn : ℕ) → Finds bytes got torn → IsPrefix synced got)
    × ((fault : OpenFault) → IsRefusedAs bytes fault → IsRefusedBehind (length synced) fault)
