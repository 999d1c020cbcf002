-- A client between two halls.
use Rattle.std.specs.Prelude.{◌≡◌, ◌⊎◌, ℕ, Bool, List, ◌++◌, Option, [], false}
use Rattle.mud_web.specs.declared.closing.Ending.{Ending}
use Rattle.mud_session.specs.State.{SessionState}
use Rattle.mud_client.specs.declared.framing.Framing.{Framing}
use Rattle.mud_client.specs.Framed.{last_words, last_close}
use Rattle.mud_client.specs.Client.{ClientState, IsSound}

-- a client without its desk: the player of that desk, or none for a guest
pub record RestingState : Type 0 where
  pub framing : Framing
  pub waiting : List ℕ
  pub session : SessionState
  pub player : Option ℕ
  pub has_ended : Bool

abbrev pub resting_of : Framing → List ℕ → SessionState → Option ℕ → Bool → RestingState
resting_of framing waiting session player has_ended =
    record { framing = framing; waiting = waiting; session = session; player = player; has_ended = has_ended }

-- the client leaves its desk
abbrev pub at_rest : ClientState → RestingState
at_rest c = resting_of c.framing c.waiting c.session c.desk.player c.has_ended

-- all output of the session was sent; unless it has ended, it is that of a sound client
pub record IsAtRest (resting : RestingState) : Type 0 where
  pub silent : resting.session.out ≡ []
  pub left : ∥ (resting.has_ended ≡ false → (client : ClientState) × (resting ≡ at_rest client) × IsSound client) ∥₁

-- its last output is this line and this close; if an allocation fails, a part of that is missing
pub record IsLast (line : List ℕ) (ending : Option Ending) (framing : Framing) (text : List ℕ) : Type 0 where
  pub words : List ℕ
  pub says : (words ≡ last_words framing line) ⊎ (words ≡ [])
  pub close : List ℕ
  pub closes : (close ≡ last_close framing ending) ⊎ (close ≡ [])
  pub is : text ≡ words ++ close
