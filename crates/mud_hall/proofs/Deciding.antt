-- The verdict of a line in the world of a history.
use Rattle.std.proofs.Common.{◌≡◌, ℕ, List, Option, Result, subst}
use Rattle.std.specs.Prelude.{IfOk}
use Rattle.std.specs.declared.alloc.AllocError.{AllocError}
use Rattle.mud_words.specs.Line.{Line}
use Rattle.mud_world.specs.State.{State}
use Rattle.mud_rules.specs.declared.verdict.Verdict.{Verdict}
use Rattle.mud_rules.specs.Outcome.{IsLawful}
use Rattle.mud_rules.specs.Table.{decision}
use Rattle.mud_chron.specs.Entry.{Entry}
use Rattle.mud_hall.specs.Notices.{world_after}

pub decided : (w : State) (h : List Entry) (p player : Option ℕ) (said : Line) (r : Result Verdict AllocError)
    → w ≡ world_after h → p ≡ player → IfOk r (λ v. v ≡ decision w p said)
    → IfOk r (λ v. v ≡ decision (world_after h) player said)
decided w h p player said r world seat is =
    let P : Option ℕ → Type 0 = λ q. IfOk r (λ v. v ≡ decision w q said) in
    let W : State → Type 0 = λ x. IfOk r (λ v. v ≡ decision x player said) in
    subst W world (subst P seat is)

pub lawful : (w : State) (h : List Entry) (p player : Option ℕ) (r : Result Verdict AllocError)
    → w ≡ world_after h → p ≡ player → IfOk r (IsLawful w p) → IfOk r (IsLawful (world_after h) player)
lawful w h p player r world seat is =
    let P : Option ℕ → Type 0 = λ q. IfOk r (IsLawful w q) in
    let W : State → Type 0 = λ x. IfOk r (IsLawful x player) in
    subst W world (subst P seat is)
