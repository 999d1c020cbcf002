-- The output of a client, and the versions that it names.
use Rattle.std.specs.Prelude.{◌≡◌, ◌⊎◌, ℕ, List, ◌++◌, Option}
use Rattle.websocket.specs.Connection.{Effect}
use Rattle.mud_web.specs.declared.closing.Ending.{Ending}
use Rattle.mud_web.specs.Channel.{Finishes, replies}
use Rattle.mud_web.specs.Sending.{frames_of}
use Rattle.mud_web.specs.Close.{closes}
use Rattle.mud_session.specs.Notices.{NamesUpTo}

-- the protocol's replies to the frames that some bytes complete, and possibly a close
pub record AreReplies (bytes : List ℕ) : Type 0 where
  pub earlier : List ℕ
  pub came : List ℕ
  pub answered : List Effect
  pub finishes : Finishes earlier came answered
  pub ending : Option Ending
  pub is : bytes ≡ replies answered ++ closes ending

-- the output is a text that names no version above `most`, framed or not; or replies, which name none
abbrev pub SaysUpTo : ℕ → List ℕ → Type 0
SaysUpTo most bytes =
    NamesUpTo most bytes ⊎ ((said : List ℕ) × NamesUpTo most said × (bytes ≡ frames_of said)) ⊎ AreReplies bytes
