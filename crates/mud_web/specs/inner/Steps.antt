-- One frame at a time.
use Rattle.std.specs.Prelude.{◌≡◌, ℕ, Bool, true, false, List, [], ◌++◌, drop, Option, None, Some, Ok, Err}
use Rattle.websocket.specs.declared.protocol.frame.codec.FrameStatus.TheVariants.{Partial, Complete}
use Rattle.websocket.specs.declared.protocol.state.WebSocketState.{WebSocketState}
use Rattle.websocket.specs.declared.protocol.state.WebSocketState.TheVariants.{Active, ClosedByUs, ClosedByPeer}
use Rattle.websocket.specs.declared.protocol.state.WebSocketState.TheVariants.{CloseAcknowledged, Failed, Terminated}
use Rattle.websocket.specs.declared.error.Error.{Error}
use Rattle.websocket.specs.Content.{Content, text}
use Rattle.websocket.specs.Connection.{Connection, Effect, failed_connection, read_step}
use Rattle.websocket.specs.Stream.{prepend, read_all}
use Rattle.mud_web.specs.declared.closing.Ending.{Ending}
use Rattle.mud_web.specs.declared.fault.Fault.{Fault}
use Rattle.mud_web.specs.declared.fault.Fault.TheVariants.{OutOfMemory, Over, Ended}
use Rattle.mud_web.specs.Close.{closes_once}
use Rattle.mud_web.specs.Channel.{Standing, typed_by, text_typed, reply_by, replies}

-- a whole frame was consumed
pub record Took (old new : Standing) (typed_old typed_new replies_old replies_new : List ℕ) : Type 0 where
  pub count : ℕ
  pub effect : Effect
  pub reads : read_step old.conn old.unread ≡ Ok (Complete (count, effect))
  pub conn : new.conn ≡ effect.next
  pub unread : new.unread ≡ drop count old.unread
  pub goes_on : new.has_ended ≡ old.has_ended
  pub types : typed_new ≡ typed_old ++ typed_by effect.message
  pub answers : replies_new ≡ replies_old ++ reply_by effect.reply

-- there is no whole frame yet
pub record Awaits (old new : Standing) (typed_old typed_new replies_old replies_new : List ℕ) : Type 0 where
  pub needed : ℕ
  pub reads : read_step old.conn old.unread ≡ Ok (Partial needed)
  pub same : new ≡ old
  pub types : typed_new ≡ typed_old
  pub answers : replies_new ≡ replies_old

abbrev pub Steps : (old new : Standing) (typed_old typed_new replies_old replies_new : List ℕ) → Bool → Type 0
Steps old new typed_old typed_new replies_old replies_new true =
    Took old new typed_old typed_new replies_old replies_new
Steps old new typed_old typed_new replies_old replies_new false =
    Awaits old new typed_old typed_new replies_old replies_new

-- the fault is not that the channel had already ended
abbrev pub IsNoEnd : Fault → Type 0
IsNoEnd Ended = ⊥
IsNoEnd OutOfMemory = Unit {0}
IsNoEnd (Over e) = Unit {0}

-- the first frame is refused with this error
pub record Refuses (old new : Standing) (typed_old typed_new replies_old replies_new : List ℕ)
    (e : Error) : Type 0 where
  pub reads : read_step old.conn old.unread ≡ Err e
  pub conn : new.conn ≡ failed_connection old.conn
  pub types : typed_new ≡ typed_old
  pub answers : replies_new ≡ replies_old

-- the text that the content types, or None if it types nothing
abbrev pub IsTyped : Content → Option (List ℕ) → Type 0
IsTyped content (Some t) = content ≡ text t
IsTyped content None = typed_by (Some content) ≡ []

-- these frames lead from the connection to the channel
pub record Reached (conn : Connection) (input : List ℕ) (channel : Standing)
    (typed_old typed_new replies_old replies_new : List ℕ) : Type 0 where
  pub done : List Effect
  pub rest : read_all conn input ≡ prepend done (read_all channel.conn channel.unread)
  pub types : typed_new ≡ typed_old ++ text_typed done
  pub answers : replies_new ≡ replies_old ++ replies done

-- the bytes sent in this state when reading ends with an error
abbrev pub closes_in : WebSocketState → Option Ending → List ℕ
closes_in state None = []
closes_in state (Some ending) = closes_once state ending

-- the server sent no close, except as a reply
abbrev pub IsOpen : WebSocketState → Type 0
IsOpen Active = Unit {0}
IsOpen ClosedByPeer = Unit {0}
IsOpen ClosedByUs = ⊥
IsOpen CloseAcknowledged = ⊥
IsOpen Failed = ⊥
IsOpen Terminated = ⊥
