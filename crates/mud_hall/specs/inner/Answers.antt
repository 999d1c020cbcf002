-- The premises of the guide, and the answer to a question for a proof.
use Rattle.std.specs.Prelude.{ℕ, Option}
use Rattle.std.specs.Option.{IsSome}
use Rattle.mud_world.specs.State.{State}
use Rattle.mud_rules.specs.declared.verdict.Journey.{Journey}
use Rattle.mud_rules.specs.declared.verdict.Query.{Query}
use Rattle.mud_guide.specs.declared.answer.Answer.{Answer}
use Rattle.mud_hall.specs.Answers.{IsGuided, IsProof, answer_shown}
use Rattle.mud_rules.specs.declared.verdict.Query.TheVariants as query

-- the answer is the text of the certificate of the guide's answer
abbrev pub IsProven : State → ℕ → Option ℕ → Journey → Answer → Type 0
IsProven w v player journey a = (g : Answer) × IsGuided w v player journey g × IsProof g.cert (answer_shown a)

-- a guest asks for no journey. Only private clauses cite it.
abbrev pub CanAsk : Option ℕ → Query → Type 0
CanAsk player (query.View view) = Unit {0}
CanAsk player (query.Journey journey) = IsSome player
CanAsk player (query.Proof journey) = IsSome player
CanAsk player query.History = Unit {0}
