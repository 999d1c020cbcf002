-- The result for a text.
use Rattle.std.specs.Prelude.{◌≡◌, ℕ, ◌<◌, ◌≤◌, ◌⊎◌, List, length, All, Bool, Option, Some, None, Ok, IsTrue}
use Rattle.mud_world.specs.State.{State, is_player}
use Rattle.mud_world.specs.History.{world_of}
use Rattle.mud_world.specs.declared.limits.TheConstants.{MOST_ENTRIES}
use Rattle.mud_chron.specs.declared.fault.ChronFault.TheVariants.{OutOfMemory}
use Rattle.mud_chron.specs.declared.format.Format.TheVariants.{Two}
use Rattle.mud_chron.specs.Entry.{Entry}
use Rattle.mud_chron.specs.Text.{history_text}
use Rattle.mud_chron.specs.Replay.{changes_of}
use Rattle.mud_rules.specs.Matches.{match_among}
use Rattle.mud_compact.specs.declared.reading.TextKind.{TextKind}
use Rattle.mud_compact.specs.declared.fault.KeptFault.TheVariants.{Text}
use Rattle.mud_compact.specs.Answer.{KeepsLegal, KeepsNoWorld}
use Rattle.mud_diff.specs.Answer.{IsDiffText}
use Rattle.mud_undo.specs.declared.choice.Choice.{Choice}
use Rattle.mud_undo.specs.declared.choice.Choice.TheVariants.{Versions, Since}
use Rattle.mud_undo.specs.declared.answering.NoUndo.{NoUndo}
use Rattle.mud_undo.specs.declared.answering.NoUndo.TheVariants as faults
use Rattle.mud_undo.specs.Without.{without, IsUndone, StandsOn}

-- ---- what a keeper means

-- these versions, each of which the history has
abbrev pub MeansVersions : List ℕ → List Entry → Choice → Type 0
MeansVersions versions entries (Versions chosen) =
    (chosen.items ≡ versions) × All (λ v. (1 ≤ v) × (v ≤ length entries)) versions
MeansVersions versions entries other = ⊥

-- the word means a player of the world, as in `meet`; `me` and `here` are those of #1
abbrev pub MeansPlayer : State → List ℕ → ℕ → Type 0
MeansPlayer w word p = (match_among (is_player w) w 1 word ≡ Ok p) × IsTrue (is_player w p)

-- from this version on the changes of the player whom the word means in the last world, or all, where there is no word
abbrev pub MeansSince : ℕ → Option (List ℕ) → List Entry → Choice → Type 0
MeansSince first None entries choice = choice ≡ Since first None
MeansSince first (Some word) entries choice =
    (p : ℕ) × MeansPlayer (world_of (changes_of entries)) word p × (choice ≡ Since first (Some p))

-- ---- answers

-- the text is the history without what is chosen, and it is told in what its world differs from the old one
pub record IsUndoneText (choice : Choice) (entries : List Entry) (text told : List ℕ) (before after : ℕ) : Type 0 where
  pub left : List Entry
  pub undone : IsUndone choice entries left
  pub fits : length left ≤ MOST_ENTRIES
  pub text_is : text ≡ history_text Two left
  pub is_same : Bool
  pub told_is : IsDiffText (world_of (changes_of entries)) (world_of (changes_of left)) told is_same
  pub before_is : before ≡ length entries
  pub after_is : after ≡ length left

-- the text is the history of the bytes without the changes that the words mean
pub record IsUndoneOf (kind : TextKind) (bytes : List ℕ) (Means : List Entry → Choice → Type 0)
    (text told : List ℕ) (torn : Option ℕ) (before after : ℕ) : Type 0 where
  pub entries : List Entry
  pub choice : Choice
  pub keeps : KeepsLegal kind bytes torn entries
  pub means : Means entries choice
  pub is : IsUndoneText choice entries text told before after

-- why there is no such text, of the entries that the bytes keep and what is chosen
abbrev pub IsNoUndo : List Entry → (Choice → Type 0) → NoUndo → Type 0
IsNoUndo entries Means (faults.History fault) = fault ≡ Text OutOfMemory
IsNoUndo entries Means (faults.StandsOn version) = (choice : Choice) × Means choice × StandsOn choice entries version
IsNoUndo entries Means faults.TooLong =
    (choice : Choice) × Means choice × (MOST_ENTRIES < length (without choice entries))
IsNoUndo entries Means (faults.NoChange version count) =
    (count ≡ length entries) × ((version ≡ 0) ⊎ (count < version)) × ((choice : Choice) → Means choice → ⊥)
IsNoUndo entries Means faults.NoPlayer = (choice : Choice) → Means choice → ⊥

-- why there is no such text
abbrev pub HasNoUndo : TextKind → List ℕ → (List Entry → Choice → Type 0) → NoUndo → Type 0
HasNoUndo kind bytes Means (faults.History fault) = KeepsNoWorld kind bytes fault
HasNoUndo kind bytes Means fault =
    (entries : List Entry) × (torn : Option ℕ) × KeepsLegal kind bytes torn entries
    × IsNoUndo entries (Means entries) fault
