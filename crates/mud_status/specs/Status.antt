-- The status as the console prints it: one number a line.
use Rattle.std.specs.Prelude.{ℕ, List, [], ◌∷◌, ◌++◌, flat_map, codes, decimal}
use Rattle.mud_status.specs.declared.status.Health.{Health}
use Rattle.mud_status.specs.declared.status.Health.TheVariants.{Well, Stopping, JournalFault, Full}
use Rattle.mud_status.specs.declared.status.Status.{Status}

-- the word for a health
abbrev pub health_word : Health → List ℕ
health_word Well = codes "ok"
health_word Stopping = codes "stopping"
health_word JournalFault = codes "journal-fault"
health_word Full = codes "history-full"

-- a line: a name and its number
pub record Row : Type 0 where
  pub name : List ℕ
  pub value : ℕ

abbrev pub row : List ℕ → ℕ → Row
row name value = record { name = name; value = value }

abbrev pub row_text : Row → List ℕ
row_text r = r.name ++ codes " " ++ decimal r.value ++ codes "\n"

-- the rows of a status
abbrev pub rows_of : Status → List Row
rows_of s =
    row (codes "changes") s.changes
    ∷ row (codes "changes_most") s.most_changes
    ∷ row (codes "synced") s.synced
    ∷ row (codes "objects") s.objects
    ∷ row (codes "objects_most") s.most_objects
    ∷ row (codes "sessions") s.sessions
    ∷ row (codes "sessions_most") s.most_sessions
    ∷ row (codes "players") s.players
    ∷ row (codes "begun") s.begun
    ∷ row (codes "refused_full") s.refused_full
    ∷ row (codes "refused_address") s.refused_address
    ∷ row (codes "refused_banned") s.refused_banned
    ∷ row (codes "refused_often") s.refused_often
    ∷ row (codes "refused_request") s.refused_request
    ∷ row (codes "lines") s.lines
    ∷ row (codes "made") s.made
    ∷ row (codes "waited") s.waited
    ∷ row (codes "volume") s.volume
    ∷ row (codes "changes_taken") s.taken
    ∷ row (codes "turns") s.turns
    ∷ row (codes "turns_called_off") s.calls_off
    ∷ row (codes "turn_pause_ms") s.pause_millis
    ∷ []

-- the text of a status
abbrev pub status_text : Status → List ℕ
status_text s =
    codes "version " ++ s.version.now ++ codes "\nsince " ++ s.since.now ++ codes "\nhealth " ++ health_word s.health
    ++ codes "\n" ++ flat_map row_text (rows_of s)
