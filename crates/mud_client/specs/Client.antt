-- The model of a client.
use Rattle.std.specs.Prelude.{◌≡◌, ℕ, Bool, List, ◌++◌}
use Rattle.mud_hall.specs.Desk.{DeskState}
use Rattle.mud_session.specs.State.{SessionState}
use Rattle.mud_session.specs.Laws.{NamesSeen}
use Rattle.mud_session.specs.Talks.{Start, fresh, IsTalk, greeting}
use Rattle.mud_client.specs.declared.framing.Framing.{Framing}
use Rattle.mud_client.specs.Framed.{Frames}

-- a client: the capacity of the history, the framing, the waiting text, its session, its desk, and whether it has ended
pub record ClientState : Type 0 where
  pub capacity : ℕ
  pub framing : Framing
  pub waiting : List ℕ
  pub session : SessionState
  pub desk : DeskState
  pub has_ended : Bool

abbrev pub state_of : ℕ → Framing → List ℕ → SessionState → DeskState → Bool → ClientState
state_of n f waiting s d has_ended =
    record { capacity = n; framing = f; waiting = waiting; session = s; desk = d; has_ended = has_ended }

-- a client that began so at its hall, and in all received these bytes and sent those. Its session received exactly the
-- typed text, up to the waiting part. Its text is its greeting and that of the turns played at its desks, at one hall
-- after another. The output sent is that text, framed, with the replies to the frames received, up to the output still
-- to be sent
pub record StandsFrom (start : Start) (came sent : List ℕ) (client : ClientState) : Type 0 where
  pub typed : List ℕ
  pub said : List ℕ
  pub talk : IsTalk client.capacity start typed said client.session client.desk
  pub frames : Frames client.framing came (typed ++ client.waiting) said sent

-- the client of a guest, at its first hall
abbrev pub Stands : (came sent : List ℕ) → ClientState → Type 0
Stands = StandsFrom (fresh greeting)

-- it received some bytes, and names no version beyond the entries that its desk has seen; it has ended if its session
-- has
pub record IsSound (client : ClientState) : Type 0 where
  pub start : Start
  pub came : List ℕ
  pub sent : List ℕ
  pub stands : StandsFrom start came sent client
  pub names : NamesSeen client.session client.desk
  pub ended : client.has_ended ≡ client.session.has_ended
