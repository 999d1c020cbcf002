-- Steps of the desks of a hall, played.
use Rattle.std.specs.Prelude.{◌≡◌, ◌⊎◌, ℕ, List, [], ◌∷◌, ◌++◌, length, codes, map}
use Rattle.std.specs.Prelude.{Option, Some, None, slice_get, slice_set}
use Rattle.std.specs.Fmt.{decimal}
use Rattle.std.specs.List.Sorted.{IsPermutation}
use Rattle.mud_words.specs.Parse.{parse_of}
use Rattle.mud_chron.specs.Entry.{Entry}
use Rattle.mud_hall.specs.declared.fault.Fault.{Fault}
use Rattle.mud_hall.specs.declared.fault.Fault.TheVariants.{OutOfMemory}
use Rattle.mud_hall.specs.declared.fault.CloseFault.{CloseFault}
use Rattle.mud_hall.specs.Desk.{View, TakesIn, IsNew, as_guest, with_told}
use Rattle.mud_hall.specs.Settlement.{IsSettled, IsCloseFault, HasNumber, entries_made}
use Rattle.mud_hall.specs.Replies.{Reply, Acts}
use Rattle.mud_hall.specs.Answers.{Answered, Answers}
use Rattle.mud_explain.specs.declared.step.Turn.{Turn}
use Rattle.mud_explain.specs.declared.step.Turn.TheVariants.{Act, Ask, See, Seen, Told, Guest}
use Rattle.mud_explain.specs.inner.StepLines.{settled_lines, unsettled_line}
use Rattle.mud_explain.specs.inner.StepLines.{fault_line, reply_line, answer_lines, seen_line, told_lines}

-- an answer, or none if memory ran out
abbrev pub TellsAnswer : View → List ℕ → List ℕ → Type 0
TellsAnswer d line told =
    ((a : Answered) × Answers d.state (parse_of line) a × (told ≡ answer_lines a)) ⊎ (told ≡ fault_line OutOfMemory)

-- the turn of a desk in a hall of this capacity, and its output
abbrev pub Turns : ℕ → Turn → View → View → List ℕ → Type 0
Turns capacity (Act line) old new told =
    (reply : Reply) × Acts capacity old.state (parse_of line.now) reply new.state × (told ≡ reply_line reply)
Turns capacity (Ask line) old new told = (new.state ≡ old.state) × TellsAnswer old line.now told
Turns capacity See old new told =
    TakesIn old.state new.state × ((told ≡ seen_line (length new.state.seen)) ⊎ (told ≡ fault_line OutOfMemory))
Turns capacity Seen old new told = (new.state ≡ old.state) × (told ≡ seen_line (length old.state.seen))
Turns capacity Told old new told =
    (lines : List (List ℕ)) × (old.state.told ≡ lines ++ new.state.told)
    × (new.state ≡ with_told old.state new.state.told) × (told ≡ told_lines lines)
Turns capacity Guest old new told = (new.state ≡ as_guest old.state) × (told ≡ codes "guest\n")

-- the desk with this number changes, and no other desk does
pub record IsAnother (n : ℕ) (old new : List View) (was is : View) : Type 0 where
  pub place : ℕ
  pub before : slice_get old place ≡ Some was
  pub number : was.state.number ≡ n
  pub after : new ≡ slice_set old place is

-- the turn of one desk of a hall of this capacity
abbrev pub TurnsOne : ℕ → ℕ → Turn → List View → List View → List ℕ → Type 0
TurnsOne capacity n turn old new told =
    (was : View) × (is : View) × IsAnother n old new was is × Turns capacity turn was is told

-- a new desk, or the reason why there is none
abbrev pub Gives : List Entry → List View → List View → List ℕ → Type 0
Gives loaded old new told =
    ((d : View) × IsNew loaded d.state × (new ≡ old ++ d ∷ [])
    × (told ≡ codes "desk " ++ decimal d.state.number ++ codes "\n"))
    ⊎ ((fault : Fault) × (new ≡ old) × (told ≡ fault_line fault))

-- the hall is closed, or no desk has the number
abbrev pub Lacks : {H : Type 0} → Option H → List View → ℕ → Type 0
Lacks hall desks n = (hall ≡ None) ⊎ (HasNumber desks n → ⊥)

-- nothing is done
abbrev pub DoesNothing : List View → List View → List ℕ → Type 0
DoesNothing old new told = (new ≡ old) × (told ≡ codes "not understood\n")

-- the desks handed in have these numbers, and the others are the rest
pub record AreHanded (numbers : List ℕ) (desks handed rest : List View) : Type 0 where
  pub numbers_are : map (λ d. d.state.number) handed ≡ numbers
  pub all : IsPermutation desks (handed ++ rest)

-- the hall was closed with the history that the desks made
abbrev pub Settles : {H : Type 0} → List Entry → List View → Option H → List ℕ → Type 0
Settles loaded handed hall told = (history : List Entry) × IsSettled loaded handed history × (hall ≡ None)
    × (told ≡ settled_lines (length (entries_made loaded history)) (length loaded) history)

-- the hall continues with all its desks
abbrev pub GoesOn : {H : Type 0} → List Entry → List View → List View → Option H → Option H → List View → List ℕ
    → Type 0
GoesOn loaded handed rest was hall desks told = (fault : CloseFault) × IsCloseFault loaded handed fault × (hall ≡ was)
    × (desks ≡ rest ++ handed) × (told ≡ unsettled_line fault)
