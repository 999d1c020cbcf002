-- The effect of a line, by its verdict.
use Rattle.std.proofs.Common.{◌≡◌, ◌⊎◌, inl, inr, ℕ, List, length, ap, refl}
use Rattle.mud_world.specs.declared.change.Change.{Change}
use Rattle.mud_rules.specs.declared.verdict.Verdict.{Verdict}
use Rattle.mud_rules.specs.declared.verdict.Verdict.TheVariants as verdict
use Rattle.mud_rules.specs.Replies.{refusal_text, welcome_text}
use Rattle.mud_hall.specs.declared.fault.Fault.TheVariants.{OutOfMemory, HistoryFull, Unpublished, DesksFull}
use Rattle.mud_hall.specs.Desk.{DeskState, as_player}
use Rattle.mud_words.specs.Line.{Line}
use Rattle.mud_hall.specs.Replies.{Reply, Accepted, Became, Refused, Question, Failed}
use Rattle.mud_hall.specs.Replies.{verdict_on, Stores, Comes, Replies}

-- if an allocation fails, the desk is unchanged for any verdict
pub comes_memory : (capacity : ℕ) (s : DeskState) (v : Verdict) (new : DeskState) → new ≡ s
    → Comes capacity s v (Failed OutOfMemory) new
comes_memory capacity s (verdict.Change e) new same = same
comes_memory capacity s (verdict.Become p) new same = same
comes_memory capacity s (verdict.Refused f) new same = same
comes_memory capacity s (verdict.Ask q) new same = same

-- the desk is unchanged if an allocation fails
pub stays_in_memory : (capacity : ℕ) (s : DeskState) (v : Verdict) (new : DeskState)
    → Comes capacity s v (Failed OutOfMemory) new → new ≡ s
stays_in_memory capacity s (verdict.Change e) new c = c
stays_in_memory capacity s (verdict.Become p) new c = c
stays_in_memory capacity s (verdict.Refused f) new c = c
stays_in_memory capacity s (verdict.Ask q) new c = c

-- the effect of a line if no allocation fails
abbrev pub Plain : ℕ → DeskState → Verdict → Reply → DeskState → Type 0
Plain capacity s (verdict.Change e) reply new = Stores capacity s e reply new
Plain capacity s (verdict.Become p) reply new =
    (reply ≡ Became (length s.seen) (welcome_text p)) × (new ≡ as_player s p)
Plain capacity s (verdict.Refused f) reply new = (reply ≡ Refused (length s.seen) f (refusal_text f)) × (new ≡ s)
Plain capacity s (verdict.Ask q) reply new = (reply ≡ Question (length s.seen)) × (new ≡ s)

pub plainly : (capacity : ℕ) (s : DeskState) (v : Verdict) (reply : Reply) (new : DeskState)
    → Comes capacity s v reply new → ((reply ≡ Failed OutOfMemory) × (new ≡ s)) ⊎ Plain capacity s v reply new
plainly capacity s (verdict.Change e) reply new c = inr c
plainly capacity s (verdict.Become p) (Failed OutOfMemory) new c = inl (refl, c)
plainly capacity s (verdict.Become p) (Failed HistoryFull) new c = inr c
plainly capacity s (verdict.Become p) (Failed Unpublished) new c = inr c
plainly capacity s (verdict.Become p) (Failed DesksFull) new c = inr c
plainly capacity s (verdict.Become p) (Accepted v text) new c = inr c
plainly capacity s (verdict.Become p) (Became v text) new c = inr c
plainly capacity s (verdict.Become p) (Refused v f text) new c = inr c
plainly capacity s (verdict.Become p) (Question v) new c = inr c
plainly capacity s (verdict.Refused f) (Failed OutOfMemory) new c = inl (refl, c)
plainly capacity s (verdict.Refused f) (Failed HistoryFull) new c = inr c
plainly capacity s (verdict.Refused f) (Failed Unpublished) new c = inr c
plainly capacity s (verdict.Refused f) (Failed DesksFull) new c = inr c
plainly capacity s (verdict.Refused f) (Accepted v text) new c = inr c
plainly capacity s (verdict.Refused f) (Became v text) new c = inr c
plainly capacity s (verdict.Refused f) (Refused v g text) new c = inr c
plainly capacity s (verdict.Refused f) (Question v) new c = inr c
plainly capacity s (verdict.Ask q) (Failed OutOfMemory) new c = inl (refl, c)
plainly capacity s (verdict.Ask q) (Failed HistoryFull) new c = inr c
plainly capacity s (verdict.Ask q) (Failed Unpublished) new c = inr c
plainly capacity s (verdict.Ask q) (Failed DesksFull) new c = inr c
plainly capacity s (verdict.Ask q) (Accepted v text) new c = inr c
plainly capacity s (verdict.Ask q) (Became v text) new c = inr c
plainly capacity s (verdict.Ask q) (Refused v f text) new c = inr c
plainly capacity s (verdict.Ask q) (Question v) new c = inr c

-- an accepted line is a change
pub record WasChange (capacity : ℕ) (s : DeskState) (line : Line) (reply : Reply) (new : DeskState) : Type 0 where
  pub change : Change
  pub decides : verdict_on s.seen s.player line ≡ verdict.Change change
  pub stores : Stores capacity s change reply new

pub accepted_is : (capacity : ℕ) (s : DeskState) (line : Line) (n : ℕ) (text : List ℕ) (new : DeskState)
    → Replies capacity s line (Accepted n text) new → WasChange capacity s line (Accepted n text) new
accepted_is capacity s line n text new r = go (verdict_on s.seen s.player line) refl r
  where
    go : (v : Verdict) → verdict_on s.seen s.player line ≡ v → Comes capacity s v (Accepted n text) new
        → WasChange capacity s line (Accepted n text) new
    go (verdict.Change e) is c = record { change = e; decides = is; stores = c }
    go (verdict.Become p) is c = let bad = c.0 in absurd (cc)
    go (verdict.Refused f) is c = let bad = c.0 in absurd (cc)
    go (verdict.Ask q) is c = let bad = c.0 in absurd (cc)

pub stored_number : (capacity : ℕ) (s : DeskState) (e : Change) (reply : Reply) (new : DeskState)
    → Stores capacity s e reply new → new.number ≡ s.number
stored_number capacity s e (Accepted v text) new x = ap (λ (d : DeskState). d.number) x.3
stored_number capacity s e (Failed HistoryFull) new x = ap (λ (d : DeskState). d.number) x.1
stored_number capacity s e (Failed Unpublished) new x = ap (λ (d : DeskState). d.number) x.1
stored_number capacity s e (Failed OutOfMemory) new x = ap (λ (d : DeskState). d.number) x
stored_number capacity s e (Failed DesksFull) new x = absurd x
stored_number capacity s e (Became v text) new x = absurd x
stored_number capacity s e (Refused v f text) new x = absurd x
stored_number capacity s e (Question v) new x = absurd x

-- for any reply, the desk keeps its number
pub same_number : (capacity : ℕ) (s : DeskState) (v : Verdict) (reply : Reply) (new : DeskState)
    → Comes capacity s v reply new → new.number ≡ s.number
same_number capacity s v reply new c = go v (plainly capacity s v reply new c)
  where
    go : (v : Verdict) → ((reply ≡ Failed OutOfMemory) × (new ≡ s)) ⊎ Plain capacity s v reply new
        → new.number ≡ s.number
    go v (inl h) = ap (λ (d : DeskState). d.number) h.1
    go (verdict.Change e) (inr h) = stored_number capacity s e reply new h
    go (verdict.Become p) (inr h) = ap (λ (d : DeskState). d.number) h.1
    go (verdict.Refused f) (inr h) = ap (λ (d : DeskState). d.number) h.1
    go (verdict.Ask q) (inr h) = ap (λ (d : DeskState). d.number) h.1
