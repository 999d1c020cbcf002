-- The answer to a line that asks.
use Rattle.std.specs.Prelude.{◌≡◌, ℕ, List, ◌++◌, length, codes, string_bytes, Option, Some, None}
use Rattle.std.specs.Option.{IsSomeAnd}
use Rattle.mud_words.specs.Line.{Line}
use Rattle.mud_world.specs.State.{State}
use Rattle.mud_world.specs.declared.refusal.Refusal.TheVariants.{NotUnderstood}
use Rattle.mud_rules.specs.declared.verdict.Journey.{Journey}
use Rattle.mud_rules.specs.declared.verdict.Journey.TheVariants.{Route, Meet}
use Rattle.mud_rules.specs.declared.verdict.Query.{Query}
use Rattle.mud_rules.specs.declared.verdict.Query.TheVariants as query
use Rattle.mud_rules.specs.declared.verdict.Verdict.{Verdict}
use Rattle.mud_rules.specs.declared.verdict.Verdict.TheVariants as verdict
use Rattle.mud_rules.specs.Replies.{refusal_text}
use Rattle.mud_rules.specs.Answers.{show_text}
use Rattle.mud_chron.specs.Entry.{Entry}
use Rattle.mud_chron.specs.Text.{history_text}
use Rattle.mud_cert.specs.Certificate.{Certificate}
use Rattle.mud_cert.specs.Text.{cert_text}
use Rattle.mud_guide.specs.declared.answer.Answer.{Answer}
use Rattle.mud_guide.specs.Answers.{IsRouteAnswer, IsMeetAnswer}
use Rattle.mud_hall.specs.Notices.{world_after}
use Rattle.mud_hall.specs.Desk.{DeskState}
use Rattle.mud_hall.specs.Replies.{verdict_on}
use Rattle.mud_chron.specs.declared.format.Format.TheVariants.{Two}

-- an answer: the version that it is about, its text, and its certificate
pub record Answered : Type 0 where
  pub version : ℕ
  pub text : List ℕ
  pub cert : Option Certificate

-- the result of a call, with its text as bytes
abbrev pub answer_shown : Answer → Answered
answer_shown a = record { version = a.version; text = string_bytes a.text; cert = a.cert }

-- the guide's answer about a journey, which only a player gets
abbrev pub IsGuided : State → ℕ → Option ℕ → Journey → Answer → Type 0
IsGuided w v None journey g = ⊥
IsGuided w v (Some p) (Route to) g = IsRouteAnswer w v p to g
IsGuided w v (Some p) (Meet party) g = IsMeetAnswer w v party g

-- the answer is the text of this certificate; its last line has no end
abbrev pub IsProof : Option Certificate → Answered → Type 0
IsProof cert a = IsSomeAnd cert (λ c. a.text ++ codes "\n" ≡ codes "proof\n" ++ cert_text c) × (a.cert ≡ cert)

-- the answer to a question; the last line of a history has no end either
abbrev pub IsShown : List Entry → Option ℕ → Query → Answered → Type 0
IsShown h player (query.View view) a = (a.text ≡ show_text (world_after h) player view) × (a.cert ≡ None)
IsShown h player (query.Journey journey) a =
    (g : Answer) × IsGuided (world_after h) (length h) player journey g × (a ≡ answer_shown g)
IsShown h player (query.Proof journey) a =
    (g : Answer) × IsGuided (world_after h) (length h) player journey g × IsProof g.cert a
IsShown h player query.History a = (a.text ++ codes "\n" ≡ codes "history\n" ++ history_text Two h) × (a.cert ≡ None)

-- the answer to a line by its verdict; a line that does not ask is not understood
abbrev pub Shows : List Entry → Option ℕ → Verdict → Answered → Type 0
Shows h player (verdict.Ask q) a = IsShown h player q a
Shows h player (verdict.Refused f) a = (a.text ≡ refusal_text f) × (a.cert ≡ None)
Shows h player other a = (a.text ≡ refusal_text NotUnderstood) × (a.cert ≡ None)

-- the desk answers the line by exactly the entries that it has seen
pub record Answers (s : DeskState) (line : Line) (a : Answered) : Type 0 where
  pub version : a.version ≡ length s.seen
  pub shows : Shows s.seen s.player (verdict_on s.seen s.player line) a
