-- The result for a text.
use Rattle.std.specs.Prelude.{◌≡◌, ℕ, ◌<◌, ◌⊎◌, ◌↔◌, List, [], ◌∷◌, length, Any, AllPairs, Contains, slice_index_or}
use Rattle.std.specs.Prelude.{Option, Some, Ok, IsTrue}
use Rattle.std.specs.Option.{option_map}
use Rattle.mud_world.specs.State.{State, is_player, is_room}
use Rattle.mud_world.specs.History.{world_of}
use Rattle.mud_chron.specs.Entry.{Entry}
use Rattle.mud_chron.specs.Replay.{changes_of, AreLegal}
use Rattle.mud_rules.specs.Matches.{match_among}
use Rattle.mud_cert.specs.Certificate.{Certificate}
use Rattle.mud_cert.specs.Text.{cert_text}
use Rattle.mud_cert.specs.Valid.{IsValid}
use Rattle.mud_cert.specs.declared.cert.Conclusion.TheVariants.{Route}
use Rattle.mud_guide.specs.Answers.{IsCertOf}
use Rattle.mud_guide.specs.Ways.{cost_of}
use Rattle.mud_guide.specs.Legs.{Leg, IsLeg}
use Rattle.mud_compact.specs.declared.reading.TextKind.{TextKind}
use Rattle.mud_compact.specs.Recovery.{KeepsEntries}
use Rattle.mud_compact.specs.Answer.{KeepsNoWorld}
use Rattle.mud_survey.specs.declared.answering.Form.{Form}
use Rattle.mud_survey.specs.declared.answering.Form.TheVariants.{Table, Json}
use Rattle.mud_survey.specs.declared.answering.NoSurvey.{NoSurvey}
use Rattle.mud_survey.specs.declared.answering.NoSurvey.TheVariants as faults
use Rattle.mud_survey.specs.declared.survey.Survey.{Survey}
use Rattle.mud_survey.specs.Survey.{IsSurvey}
use Rattle.mud_survey.specs.Table.{table_text}
use Rattle.mud_survey.specs.Json.{json_text}

-- the bytes hold legal entries; this is their number, and this their world
pub record KeepsVersion (kind : TextKind) (bytes : List ℕ) (torn : Option ℕ) (version : ℕ) (w : State) : Type 0 where
  pub entries : List Entry
  pub kept : KeepsEntries kind bytes entries torn
  pub legal : AreLegal (changes_of entries)
  pub version_is : version ≡ length entries
  pub world : w ≡ world_of (changes_of entries)

-- ---- what a keeper means

-- the word means this player, as in `meet`; `me` and `here` are those of #1
abbrev pub MeansPlayer : State → List ℕ → ℕ → Type 0
MeansPlayer w word p = (match_among (is_player w) w 1 word ≡ Ok p) × IsTrue (is_player w p)

-- the word means this room, as in `route to`
abbrev pub MeansRoom : State → List ℕ → ℕ → Type 0
MeansRoom w word room = (match_among (is_room w) w 1 word ≡ Ok room) × IsTrue (is_room w room)

-- the word at this place means no player
abbrev pub MeansNobody : State → List (List ℕ) → ℕ → Type 0
MeansNobody w words place =
    (place < length words) × ((p : ℕ) → MeansPlayer w (slice_index_or words place []) p → ⊥)

-- the players that the words mean, or all where there are none, by rising number
pub record IsParty (w : State) (words : List (List ℕ)) (ps : List ℕ) : Type 0 where
  pub rising : AllPairs ◌<◌ ps
  pub exact : (p : ℕ) → Contains ps p
      ↔ (IsTrue (is_player w p) × ((words ≡ []) ⊎ Any (λ word. MeansPlayer w word p) words))

-- ---- answers

-- a survey as a table, or in JSON
abbrev pub survey_text : Form → ℕ → State → List ℕ → Survey → List ℕ
survey_text Table version w ps s = table_text w s
survey_text Json version w ps s = json_text version ps s

-- the text is a survey of the world that the bytes keep, for the players that the words mean
pub record IsSurveyText (kind : TextKind) (form : Form) (bytes : List ℕ) (words : List (List ℕ)) (text : List ℕ)
    (torn : Option ℕ) : Type 0 where
  pub version : ℕ
  pub world : State
  pub keeps : KeepsVersion kind bytes torn version world
  pub players : List ℕ
  pub party : IsParty world words players
  pub survey : Survey
  pub is : IsSurvey world players survey
  pub text_is : text ≡ survey_text form version world players survey

-- the text is a valid certificate of the player's way to the room, or that there is none
pub record IsProofText (w : State) (version player room : ℕ) (text : List ℕ) : Type 0 where
  pub leg : Leg
  pub goes : IsLeg w (Some room) player leg
  pub cert : Certificate
  pub of : IsCertOf w version (leg ∷ []) (Route room (option_map cost_of leg.way)) cert
  pub valid : IsValid w cert
  pub text_is : text ≡ cert_text cert

-- the text is the certificate of the player and the room that the words mean
pub record IsWayProof (kind : TextKind) (bytes player room text : List ℕ) (torn : Option ℕ) : Type 0 where
  pub version : ℕ
  pub world : State
  pub keeps : KeepsVersion kind bytes torn version world
  pub who : ℕ
  pub who_is : MeansPlayer world player who
  pub to : ℕ
  pub to_is : MeansRoom world room to
  pub proof : IsProofText world version who to text

-- why there is no survey, or no certificate, for players and rooms that words mean
abbrev pub HasNoSurvey : TextKind → List ℕ → List (List ℕ) → List (List ℕ) → NoSurvey → Type 0
HasNoSurvey kind bytes words rooms (faults.History fault) = KeepsNoWorld kind bytes fault
HasNoSurvey kind bytes words rooms (faults.NoPlayer place) =
    (version : ℕ) × (w : State) × (torn : Option ℕ) × KeepsVersion kind bytes torn version w × MeansNobody w words place
HasNoSurvey kind bytes words rooms faults.NoRoom =
    (version : ℕ) × (w : State) × (torn : Option ℕ) × KeepsVersion kind bytes torn version w
    × Any (λ word. (room : ℕ) → MeansRoom w word room → ⊥) rooms
