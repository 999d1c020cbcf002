-- A Telnet connection while it is served.
use Rattle.std.specs.Prelude.{◌≡◌, ◌⊎◌, ℕ, Bool, true, false, List, [], ◌++◌, Option, None, Some, IfSome, All}
use Rattle.std.specs.List.{flat_map}
use mathlib.Core.List.{IsPrefix}
use Rattle.mud_chron.specs.Entry.{Entry}
use Rattle.mud_hall.specs.Desk.{DeskState, IsNew}
use Rattle.mud_session.specs.State.{SessionState}
use Rattle.mud_session.specs.Talks.{fresh, IsTalk, greeting}
use Rattle.mud_client.specs.declared.framing.Framing.TheVariants.{Telnet}
use Rattle.mud_client.specs.declared.outgoing.End.{End}
use Rattle.mud_client.specs.declared.outgoing.End.TheVariants.{Quit}
use Rattle.mud_client.specs.Client.{ClientState}
use Rattle.mud_client.specs.Sayings.{SaysUpTo}
use Rattle.mud_theorems.specs.Runs.{Work, IsWork}
use Rattle.mud_theorems.specs.Peers.{Traffic}
use Rattle.mud_theorems.specs.Serving.{IsServed, TellsUpTo}

-- this is the traffic, as far as it is known
abbrev pub IsKnown : Option Traffic → Traffic → Type 0
IsKnown traffic t = IfSome traffic (λ known. known ≡ t)

-- bytes came and were sent, and there may be more
abbrev pub so_far : List ℕ → List ℕ → Traffic
so_far came sent = record { came = came; sent = sent; has_ended = false; has_left = false }

-- a talk that began at this desk
abbrev pub TalkFrom : DeskState → ℕ → List ℕ → List ℕ → SessionState → DeskState → Type 0
TalkFrom first capacity typed output session desk =
    (talk : IsTalk capacity (fresh greeting) typed output session desk) × (talk.first ≡ first)

-- a client that began at a new desk; it received these bytes, and this is its output
pub record Began (capacity : ℕ) (loaded : List Entry) (came output : List ℕ) (client : ClientState) : Type 0 where
  pub first : DeskState
  pub new : IsNew loaded first
  pub typed : List ℕ
  pub talk : TalkFrom first client.capacity typed output client.session client.desk
  pub comes : typed ++ client.waiting ≡ came
  pub telnet : client.framing ≡ Telnet
  pub capacity_is : client.capacity ≡ capacity

-- its client received all bytes but the last ones that came, and all its output was sent but the last text. No text
-- that was sent names a version above `most`
pub record IsTalking (capacity : ℕ) (loaded : List Entry) (traffic : Option Traffic) (most : ℕ) (client : ClientState)
    (last more : List ℕ) : Type 0 where
  pub came : List ℕ
  pub sent : List ℕ
  pub known : IsKnown traffic (so_far (came ++ last) sent)
  pub began : Began capacity loaded came (sent ++ more) client
  pub texts : List (List ℕ)
  pub each : All (SaysUpTo most) texts
  pub told : sent ≡ flat_map (λ text. text) texts

-- the client has returned all output of its session; if no more lines wait, no text waits; and after `quit` its session
-- has ended
abbrev pub IsQuiet : ClientState → Option End → Bool → Type 0
IsQuiet client end has_more =
    (client.session.out ≡ []) × (end ≡ None → has_more ≡ false → client.waiting ≡ [])
    × (end ≡ Some Quit → client.session.has_ended ≡ true)

-- all output was sent; and the session has ended, or all bytes came and were read
pub record IsAtEnd (t : Traffic) (output : List ℕ) (client : ClientState) : Type 0 where
  pub sent : t.sent ≡ output
  pub none : client.session.out ≡ []
  pub all : (client.session.has_ended ≡ true) ⊎ ((t.has_ended ≡ true) × (client.waiting ≡ []))

-- it is over: a prefix of the output of its client was sent; unless it was cut off or the peer took no more, it is at
-- its end
pub record IsOver (capacity : ℕ) (loaded : List Entry) (traffic : Option Traffic) (most : ℕ) (is_cut : Bool)
    (client : ClientState) : Type 0 where
  pub t : Traffic
  pub known : IsKnown traffic t
  pub output : List ℕ
  pub began : Began capacity loaded t.came output client
  pub front : IsPrefix t.sent output
  pub tells : TellsUpTo most t.sent
  pub done : (is_cut ≡ true) ⊎ (t.has_left ≡ true) ⊎ IsAtEnd t output client

-- it was served at this desk, whose calls are not seen
pub record WasServed (capacity : ℕ) (loaded : List Entry) (traffic : Option Traffic) (most : ℕ) (is_cut : Bool)
    (desk : DeskState) : Type 0 where
  pub work : Work
  pub desk_is : work.desk ≡ desk
  pub is : IsWork capacity loaded work
  pub served : IfSome traffic (IsServed capacity is_cut work)
  pub tells : IfSome traffic (λ t. TellsUpTo most t.sent)
