-- The reply to a line that acts, and its effect on the desk.
use Rattle.std.specs.Prelude.{◌≡◌, ℕ, ◌+◌, ◌<◌, List, length, Option, Result, Ok, Err}
use Rattle.std.specs.Cow.{cow_str_bytes}
use Rattle.mud_words.specs.Line.{Line}
use Rattle.mud_world.specs.declared.change.Change.{Change}
use Rattle.mud_world.specs.declared.refusal.Refusal.{Refusal}
use Rattle.mud_rules.specs.declared.verdict.Verdict.{Verdict}
use Rattle.mud_rules.specs.declared.verdict.Verdict.TheVariants as verdict
use Rattle.mud_rules.specs.Table.{decision}
use Rattle.mud_rules.specs.Replies.{reply_text, refusal_text, welcome_text}
use Rattle.mud_chron.specs.Entry.{Entry}
use Rattle.mud_hall.specs.declared.reply.Reply.{Reply as Returned}
use Rattle.mud_hall.specs.declared.reply.Reply.TheVariants as returned
use Rattle.mud_hall.specs.declared.fault.Fault.{Fault}
use Rattle.mud_hall.specs.declared.fault.Fault.TheVariants.{OutOfMemory, HistoryFull, Unpublished}
use Rattle.mud_hall.specs.Notices.{world_after}
use Rattle.mud_hall.specs.Desk.{DeskState, TakesIn, as_player, as_accepted}

-- the reply to a line that acts, with the version that it is about, or the reason why the line was not acted on
pub data Reply : Type 0 where
  Accepted : (version : ℕ) → (text : List ℕ) → Reply
  Became : (version : ℕ) → (text : List ℕ) → Reply
  Refused : (version : ℕ) → (refusal : Refusal) → (text : List ℕ) → Reply
  Question : (version : ℕ) → Reply
  Failed : (fault : Fault) → Reply

-- the result of a call, with texts as bytes
abbrev pub reply_shown : Result Returned Fault → Reply
reply_shown (Ok (returned.Accepted v text)) = Accepted v (cow_str_bytes text)
reply_shown (Ok (returned.Became v text)) = Became v (cow_str_bytes text)
reply_shown (Ok (returned.Refused v f text)) = Refused v f (cow_str_bytes text)
reply_shown (Ok (returned.Question v)) = Question v
reply_shown (Err fault) = Failed fault

-- the verdict of a line of a player, after a history
abbrev pub verdict_on : List Entry → Option ℕ → Line → Verdict
verdict_on h player line = decision (world_after h) player line

-- a change is the next entry of a history with this capacity, or is not stored
abbrev pub Stores : ℕ → DeskState → Change → Reply → DeskState → Type 0
Stores capacity s e (Accepted v text) new =
    (length s.seen < capacity) × (v ≡ length s.seen + 1) × (text ≡ reply_text (world_after s.seen) e)
    × (new ≡ as_accepted s e)
Stores capacity s e (Failed HistoryFull) new = (length s.seen ≡ capacity) × (new ≡ s)
Stores capacity s e (Failed Unpublished) new = (length s.seen < capacity) × (new ≡ s)
Stores capacity s e (Failed OutOfMemory) new = new ≡ s
Stores capacity s e other new = ⊥

-- the reply by the verdict of a line, and the desk afterwards; if an allocation fails, the desk is unchanged
abbrev pub Comes : ℕ → DeskState → Verdict → Reply → DeskState → Type 0
Comes capacity s (verdict.Change e) reply new = Stores capacity s e reply new
Comes capacity s other (Failed OutOfMemory) new = new ≡ s
Comes capacity s (verdict.Become p) reply new =
    (reply ≡ Became (length s.seen) (welcome_text p)) × (new ≡ as_player s p)
Comes capacity s (verdict.Refused f) reply new = (reply ≡ Refused (length s.seen) f (refusal_text f)) × (new ≡ s)
Comes capacity s (verdict.Ask q) reply new = (reply ≡ Question (length s.seen)) × (new ≡ s)

-- a desk replies to the line by all entries that it has seen
abbrev pub Replies : ℕ → DeskState → Line → Reply → DeskState → Type 0
Replies capacity s line reply new = Comes capacity s (verdict_on s.seen s.player line) reply new

-- the desk sees entries, and then replies to the line
pub record Acts (capacity : ℕ) (old : DeskState) (line : Line) (reply : Reply) (new : DeskState) : Type 0 where
  pub ready : DeskState
  pub takes_in : TakesIn old ready
  pub replies : Replies capacity ready line reply new
