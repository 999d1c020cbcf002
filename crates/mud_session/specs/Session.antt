-- A session at any door: the turns of its units, and their output.
use Rattle.std.specs.Prelude.{◌≡◌, ◌≢◌, ℕ, Bool, true, false, not, ◌==◌, if◌then◌else◌, Option, None, Some}
use Rattle.std.specs.Prelude.{List, [], ◌∷◌, ◌++◌, codes, decimal, map}
use Rattle.std.specs.List.{flat_map, list_any}
use Rattle.std.specs.Option.{option_map_or, IsSome}
use Rattle.mud_words.specs.Parse.{parse_of}
use Rattle.mud_words.specs.Words.{is_blank}
use Rattle.mud_nvt.specs.declared.codes.TheConstants.{LF, CR}
use Rattle.mud_nvt.specs.Units.{Given, Text, TooLong, Ayt, Answer}
use Rattle.mud_rules.specs.Table.{is_question, is_quit}
use Rattle.mud_hall.specs.declared.fault.Fault.TheVariants.{HistoryFull, Unpublished}
use Rattle.mud_hall.specs.Desk.{DeskState, HandsOut}
use Rattle.mud_hall.specs.Replies.{Reply, Accepted, Became, Refused, Failed, Replies}
use Rattle.mud_hall.specs.Answers.{Answered, Answers}

-- ---- a session, and its input

-- the entries of others that a desk may see: any at a desk of a hall, and none at a single-user desk
abbrev pub TakingIn : Type 1
TakingIn = DeskState → DeskState → Type 0

abbrev pub TakesNone : TakingIn
TakesNone old new = new ≡ old

-- a desk is shared if it may see entries of others
abbrev pub IsShared : TakingIn → Type 0
IsShared takes_in = (old : DeskState) × (new : DeskState) × takes_in old new × (new ≢ old)

-- ---- texts

-- a reply names the version that it is about
abbrev pub with_version : ℕ → List ℕ → List ℕ
with_version v text = codes "[" ++ decimal v ++ codes "] " ++ text

-- the reply to a line that acts. A question has an answer instead, and a failed allocation has neither
abbrev pub reply_line : Reply → Option (List ℕ)
reply_line (Accepted v text) = Some (with_version v text)
reply_line (Became v text) = Some (with_version v text)
reply_line (Refused v refusal text) = Some (with_version v text)
reply_line (Failed HistoryFull) = Some (codes "(history full)")
reply_line (Failed Unpublished) = Some (codes "(not stored)")
reply_line other = None

-- a text of one or more lines, each of which ends with CR LF
abbrev pub wire_text : List ℕ → List ℕ
wire_text text = flat_map (λ b. if b == LF then CR ∷ LF ∷ [] else b ∷ []) text ++ CR ∷ LF ∷ []

-- ---- the effect on a desk

-- only lines that are not blank reach the desk
abbrev pub is_heard : Given → Bool
is_heard (Text line) = not (is_blank line)
is_heard other = false

-- the desk sees entries, and some of its notices are sent
pub record Sees (takes_in : TakingIn) (old : DeskState) (lines : List (List ℕ)) (new : DeskState) : Type 0 where
  pub ready : DeskState
  pub takes : takes_in old ready
  pub tells : HandsOut ready lines new

-- the desk sees entries and replies, and all of its notices are sent
pub record IsActed (takes_in : TakingIn) (capacity : ℕ) (old : DeskState) (line : List ℕ) (reply : Reply)
    (lines : List (List ℕ)) (new : DeskState) : Type 0 where
  pub ready : DeskState
  pub takes : takes_in old ready
  pub acted : DeskState
  pub replies : Replies capacity ready (parse_of line) reply acted
  pub stored : reply ≡ Failed Unpublished → IsShared takes_in
  pub tells : HandsOut acted lines new
  pub all : new.told ≡ []
  pub says : IsSome (reply_line reply)

-- ---- the table of turns: a row a case

-- the cases of a turn: a unit that does not reach the desk; a look for changes, without a unit; or a line that fails to
-- allocate, that asks, or that acts
pub data Case : Type 0 where
  Rests : (unit : Given) → Case
  Looks : Case
  Fails : (line : List ℕ) → Case
  Asks : (line : List ℕ) → (answer : Answered) → Case
  Acts : (line : List ℕ) → (reply : Reply) → Case

-- the unit of the turn
abbrev pub unit_of : Case → Option Given
unit_of (Rests unit) = Some unit
unit_of Looks = None
unit_of (Fails line) = Some (Text line)
unit_of (Asks line answer) = Some (Text line)
unit_of (Acts line reply) = Some (Text line)

-- the effect on the desk, and the notices sent: all of them before an answer, which is by the entries seen then
abbrev pub Does : TakingIn → ℕ → DeskState → Case → List (List ℕ) → DeskState → Type 0
Does takes_in capacity old (Rests unit) lines new = (is_heard unit ≡ false) × (lines ≡ []) × (new ≡ old)
Does takes_in capacity old Looks lines new = Sees takes_in old lines new
Does takes_in capacity old (Fails line) lines new = (is_blank line ≡ false) × Sees takes_in old lines new
Does takes_in capacity old (Asks line answer) lines new =
    (is_blank line ≡ false) × (is_question (parse_of line) ≡ true) × Sees takes_in old lines new × (new.told ≡ [])
    × Answers new (parse_of line) answer
Does takes_in capacity old (Acts line reply) lines new =
    (is_blank line ≡ false) × (is_question (parse_of line) ≡ false) × IsActed takes_in capacity old line reply lines new

-- the output after the notices
abbrev pub answer_to : Case → List ℕ
answer_to (Rests TooLong) = wire_text (codes "(line too long)")
answer_to (Rests Ayt) = wire_text (codes "[Yes]")
answer_to (Rests (Answer bytes)) = bytes
answer_to (Rests (Text line)) = []
answer_to Looks = []
answer_to (Fails line) = wire_text (codes "(out of memory)")
answer_to (Asks line answer) = wire_text (with_version answer.version answer.text)
answer_to (Acts line reply) = option_map_or wire_text (reply_line reply) []

-- an answered `quit` is the last turn
abbrev pub is_last : Case → Bool
is_last (Asks line answer) = is_quit (parse_of line)
is_last other = false

-- ---- successive turns

-- a turn, with the notices sent in it
pub record Turn : Type 0 where
  pub case : Case
  pub notices : List (List ℕ)

-- successive turns, with none after the last one; the history has this capacity
abbrev pub Plays : TakingIn → ℕ → DeskState → List Turn → DeskState → Type 0
Plays takes_in capacity old [] new = new ≡ old
Plays takes_in capacity old (turn ∷ turns) new =
    (mid : DeskState) × Does takes_in capacity old turn.case turn.notices mid × (is_last turn.case ≡ true → turns ≡ [])
    × Plays takes_in capacity mid turns new

-- one of these turns was the last
abbrev pub is_over : List Turn → Bool
is_over turns = list_any (λ turn. is_last turn.case) turns

-- the output of these turns
abbrev pub text_of : List Turn → List ℕ
text_of turns = flat_map (λ turn. flat_map wire_text turn.notices ++ answer_to turn.case) turns

-- the first of these units had their turns, and no other unit had one
pub record Play (takes_in : TakingIn) (capacity : ℕ) (old : DeskState) (units : List Given) (new : DeskState)
    : Type 0 where
  pub turns : List Turn
  pub left : List Given
  pub units_are : map Some units ≡ map (λ turn. unit_of turn.case) turns ++ map Some left
  pub plays : Plays takes_in capacity old turns new
