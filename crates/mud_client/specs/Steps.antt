-- The effect of one step on a client.
use Rattle.std.specs.Prelude.{◌≡◌, ◌≢◌, ◌⊎◌, ℕ, ◌+◌, nat_lt, Bool, true, false, ◌&&◌, ◌||◌, ◌==◌, if◌then◌else◌}
use Rattle.std.specs.Prelude.{List, [], ◌++◌, length, take, Option, None, Some, is_some, is_none}
use Rattle.std.specs.List.{position_or_len, after_first}
use Rattle.websocket.specs.declared.error.Error.{Error}
use Rattle.mud_nvt.specs.declared.codes.TheConstants.{CR, LF}
use Rattle.mud_nvt.specs.History.{StandsAfter}
use Rattle.mud_web.specs.declared.closing.Ending.{Ending}
use Rattle.mud_hall.specs.Desk.{TakesIn}
use Rattle.mud_session.specs.State.{DoorState}
use Rattle.mud_session.specs.Feeds.{Feeds, Nudges}
use Rattle.mud_client.specs.declared.outgoing.End.{End}
use Rattle.mud_client.specs.declared.outgoing.End.TheVariants.{Quit, Over}
use Rattle.mud_client.specs.declared.outgoing.Outgoing.{Outgoing}
use Rattle.mud_client.specs.Framed.{Reads, Breaks, framed, last_words, last_close}
use Rattle.mud_client.specs.Client.{ClientState}

-- ---- the end of a step

-- the step was done, and the client continues or its player got the answer to `quit`; frames ended it with this error;
-- or it was not done
abbrev pub MatchEnd : Option End → (done : Type 0) → (over : Error → Type 0) → (refused : Type 0) → Type 0
MatchEnd None done over refused = done
MatchEnd (Some Quit) done over refused = done
MatchEnd (Some (Over error)) done over refused = over error
MatchEnd end done over refused = refused

abbrev pub IfDone : Option End → Type 0 → Type 0
IfDone end done = MatchEnd end done (λ error. Unit {0}) (Unit {0})

-- ---- the result of a step

-- the output of a step, the version that it is withheld for, and the other results of the step
pub record Output : Type 0 where
  pub text : List ℕ
  pub version : ℕ
  pub end : Option End
  pub has_line : Bool
  pub has_more : Bool
  pub accepted : Option ℕ
  pub has_player : Bool

abbrev pub output_of : {J : Type 0} → Outgoing J → Output
output_of out = record {
  text = out.text.text.items;
  version = out.text.version;
  end = out.end;
  has_line = out.has_line;
  has_more = out.has_more;
  accepted = out.accepted;
  has_player = out.has_player;
}

-- ---- its session

-- its desk, at a hall whose history has this capacity
abbrev pub door_of : ClientState → DoorState
door_of client = record { capacity = client.capacity; desk = client.desk; pending = [] }

-- the session receives this input, whatever it received earlier
abbrev pub IsFed : (typed : List ℕ) → (old new : ClientState) → Type 0
IsFed typed old new =
    (earlier : List ℕ) → StandsAfter old.session.terminal earlier
    → Feeds TakesIn earlier typed old.session new.session (door_of old) (door_of new)

-- its session with this output
abbrev pub saying : List ℕ → ClientState → ClientState
saying said client = record client { session = record client.session { out = said } }

-- the output of the session is returned, framed; it waits for the entries that the desk has seen
pub record Says (line : Bool) (old new : ClientState) (out : Output) : Type 0 where
  pub same : new ≡ saying [] old
  pub gives : out.text ≡ framed old.framing old.session.out
  pub version : out.version ≡ length old.desk.seen
  pub ends : out.has_line ≡ line

abbrev pub ends_line : ℕ → Bool
ends_line b = (b == CR) || (b == LF)

-- the first line of a text, with the byte that ends it, or the whole text if there is none
abbrev pub first_line : List ℕ → List ℕ
first_line text = take (position_or_len ends_line text + 1) text

-- that line has an end
abbrev pub has_line : List ℕ → Bool
has_line text = nat_lt (position_or_len ends_line text) (length text)

-- ---- a step with input

-- the typed text of the input waits, and these are the protocol's replies to its frames
pub record Comes (bytes answered : List ℕ) (old new : ClientState) : Type 0 where
  pub reads : Reads old.framing new.framing bytes old.waiting new.waiting answered
  pub same : new ≡ record old { framing = new.framing; waiting = new.waiting }

-- the replies are the output, and wait for no entry; the waiting text stays
pub record AnswersFrames (answered : List ℕ) (old new : ClientState) (out : Output) : Type 0 where
  pub some : answered ≢ []
  pub same : new ≡ old
  pub gives : out.text ≡ answered
  pub version : out.version ≡ 0
  pub line : out.has_line ≡ false

-- the first waiting line is fed
pub record FeedsLine (old new : ClientState) : Type 0 where
  pub feeds : IsFed (first_line old.waiting) old new
  pub same : (new.capacity ≡ old.capacity) × (new.framing ≡ old.framing)
  pub rest : new.waiting ≡ after_first ends_line old.waiting
  pub ended : new.has_ended ≡ (old.has_ended || new.session.has_ended)

-- a step with input. If the protocol replies to its frames, these replies are the whole output; otherwise the first
-- waiting line is fed, and the output is what the session says
pub record Steps (bytes : List ℕ) (old new : ClientState) (out : Output) : Type 0 where
  pub answered : List ℕ
  pub mid : ClientState
  pub comes : Comes bytes answered old mid
  pub gives : AnswersFrames answered mid new out
      ⊎ ((answered ≡ []) × (fed : ClientState) × FeedsLine mid fed × Says (has_line mid.waiting) fed new out)

-- all waiting text is fed, up to an answered `quit`
pub record IsFedAll (old new : ClientState) : Type 0 where
  pub done : List ℕ
  pub splits : old.waiting ≡ done ++ new.waiting
  pub all : new.session.has_ended ≡ false → new.waiting ≡ []
  pub said : List ℕ
  pub feeds : IsFed done old (saying said new)

-- frames end the connection with this error. The text typed before is fed, and its answers are dropped: the output is
-- the replies to the frames, and the close that the error calls for
pub record CutsOff (bytes : List ℕ) (error : Error) (old new : ClientState) (out : Output) : Type 0 where
  pub typed : List ℕ
  pub breaks : Breaks old.framing bytes old.waiting typed out.text error
  pub fed : IsFedAll (record old { waiting = typed }) new

-- ---- the other steps

-- it looks for changes of others: the notices are added to the output of its session
pub record LooksFor (old new : ClientState) : Type 0 where
  pub nudges : Nudges TakesIn old.session new.session (door_of old) (door_of new)
  pub same : new ≡ record old { session = new.session; desk = new.desk }

-- then the output is what the session says
abbrev pub Looks : (old new : ClientState) → Output → Type 0
Looks old new out = (looked : ClientState) × LooksFor old looked × Says false looked new out

-- its last output is this line and this close; if an allocation fails, a part of that is missing
pub record Parts (line : List ℕ) (ending : Option Ending) (old new : ClientState) (text : List ℕ) : Type 0 where
  pub words : List ℕ
  pub says : (words ≡ last_words old.framing line) ⊎ (words ≡ [])
  pub close : List ℕ
  pub closes : (close ≡ last_close old.framing ending) ⊎ (close ≡ [])
  pub is : text ≡ words ++ close
  pub same : new ≡ record old { framing = new.framing; has_ended = true }

-- ---- the report of a step

-- a step reports whether the client has ended, whether lines wait, the number of entries seen if the desk accepted a
-- change beyond the earlier count, and whether it is a player's
pub record Reports (accepted : ℕ) (client : ClientState) (out : Output) : Type 0 where
  pub ended : client.has_ended ≡ is_some out.end
  pub more : out.has_more ≡ (is_none out.end && nat_lt 0 (length client.waiting))
  pub change : out.accepted
      ≡ (if nat_lt accepted (length client.desk.calls) then Some (length client.desk.seen) else None)
  pub player : out.has_player ≡ is_some client.desk.player
