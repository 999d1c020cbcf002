-- The status as metrics: the text format of Prometheus, version 0.0.4. Each name has a line of help, its type, and its
-- values.
use Rattle.std.specs.Prelude.{ℕ, List, [], ◌∷◌, ◌++◌, flat_map, codes, decimal, ◌==◌, if◌then◌else◌}
use Rattle.mud_status.specs.declared.status.Health.{Health}
use Rattle.mud_status.specs.declared.status.Health.TheVariants.{Well, Stopping, JournalFault, Full}
use Rattle.mud_status.specs.declared.status.Status.{Status}

-- the health of a server as a number
abbrev pub is_well : Health → ℕ
is_well Well = 1
is_well Stopping = 0
is_well JournalFault = 0
is_well Full = 0

-- a metric: its name, type, help text and value
pub record Metric : Type 0 where
  pub name : List ℕ
  pub kind : List ℕ
  pub help : List ℕ
  pub value : ℕ

abbrev pub gauge : List ℕ → List ℕ → ℕ → Metric
gauge name help value = record { name = name; kind = codes "gauge"; help = help; value = value }

abbrev pub counter : List ℕ → List ℕ → ℕ → Metric
counter name help value = record { name = name; kind = codes "counter"; help = help; value = value }

abbrev pub about_text : List ℕ → List ℕ → List ℕ → List ℕ
about_text name kind help =
    codes "# HELP " ++ name ++ codes " " ++ help ++ codes "\n# TYPE " ++ name ++ codes " " ++ kind ++ codes "\n"

abbrev pub metric_text : Metric → List ℕ
metric_text m = about_text m.name m.kind m.help ++ m.name ++ codes " " ++ decimal m.value ++ codes "\n"

-- the metrics of the server and its world
abbrev pub server_metrics_of : Status → List Metric
server_metrics_of s =
    gauge (codes "mud_start_time_seconds") (codes "Time of the server's start, in seconds since 1970.") s.since_seconds
    ∷ gauge (codes "mud_well") (codes "1 if the server accepts connections and changes.") (is_well s.health)
    ∷ gauge (codes "mud_changes") (codes "Changes in the history.") s.changes
    ∷ gauge (codes "mud_changes_most") (codes "Greatest number of changes in the history.") s.most_changes
    ∷ gauge (codes "mud_synced_changes") (codes "Changes that the journal has synced.") s.synced
    ∷ gauge (codes "mud_objects") (codes "Objects in the world.") s.objects
    ∷ gauge (codes "mud_objects_most") (codes "Greatest number of objects in the world.") s.most_objects
    ∷ []

-- the metrics of the sessions and their lines
abbrev pub session_metrics_of : Status → List Metric
session_metrics_of s =
    gauge (codes "mud_sessions") (codes "Sessions.") s.sessions
    ∷ gauge (codes "mud_sessions_most") (codes "Greatest number of sessions.") s.most_sessions
    ∷ gauge (codes "mud_players") (codes "Sessions with a player.") s.players
    ∷ counter (codes "mud_sessions_begun_total") (codes "Sessions that have begun.") s.begun
    ∷ counter (codes "mud_lines_total") (codes "Answered lines.") s.lines
    ∷ counter (codes "mud_changes_made_total") (codes "Changes made since the start.") s.made
    ∷ counter (codes "mud_lines_waited_total") (codes "Lines that had to wait for a limit.") s.waited
    ∷ []

-- the metrics of the volumes of a journal
abbrev pub volume_metrics_of : Status → List Metric
volume_metrics_of s =
    gauge (codes "mud_volume") (codes "Number of the journal's volume.") s.volume
    ∷ gauge (codes "mud_changes_taken") (codes "Changes that the world takes by itself, if most of a volume.") s.taken
    ∷ counter (codes "mud_turns_total") (codes "Turns to a next volume.") s.turns
    ∷ counter (codes "mud_turns_called_off_total") (codes "Turns that were called off.") s.calls_off
    ∷ []

-- the number of connections that were refused for a reason
abbrev pub refused_text : List ℕ → ℕ → List ℕ
refused_text why value = codes "mud_refused_total{why=\"" ++ why ++ codes "\"} " ++ decimal value ++ codes "\n"

-- the text of a status
abbrev pub metrics_text : Status → List ℕ
metrics_text s =
    about_text (codes "mud_build_info") (codes "gauge") (codes "The program's version.")
    ++ codes "mud_build_info{version=\"" ++ s.version.now ++ codes "\"} 1\n"
    ++ flat_map metric_text (server_metrics_of s)
    ++ flat_map metric_text (session_metrics_of s)
    ++ flat_map metric_text (volume_metrics_of s)
    ++ about_text (codes "mud_refused_total") (codes "counter") (codes "Refused connections, by reason.")
    ++ refused_text (codes "full") s.refused_full
    ++ refused_text (codes "address") s.refused_address
    ++ refused_text (codes "banned") s.refused_banned
    ++ refused_text (codes "often") s.refused_often
    ++ refused_text (codes "request") s.refused_request
