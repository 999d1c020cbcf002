-- From the finding for a certificate to the finding for two texts.
use Rattle.std.proofs.Common.{◌≡◌, ◌≢◌, ℕ, zero, suc, List, [], ◌∷◌, take, refl, sym, subst}
use Rattle.mud_world.specs.State.{State}
use Rattle.mud_world.specs.Opening.{opening_state}
use Rattle.mud_world.specs.Legal.{after}
use Rattle.mud_chron.specs.declared.fault.ChronFault.{ChronFault}
use Rattle.mud_chron.specs.declared.fault.ChronFault.TheVariants.{OutOfMemory, NotHistory, BadLine, BadChange, TooLong}
use Rattle.mud_chron.specs.declared.fault.ChronFault.TheVariants.{NoEnd}
use Rattle.mud_chron.specs.Entry.{Entry}
use Rattle.mud_chron.specs.Replay.{changes_of, AreLegal, AreLegalFrom, HasIllegal}
use Rattle.mud_checker.proofs.Legality.{none-illegal}

-- a prefix of the empty list is empty
take-nil : (n : ℕ) → take {A = Entry} n [] ≡ []
take-nil zero = refl
take-nil (suc n) = refl

-- the first changes are legal if all are
legal-first : (w : State) (entries : List Entry) (n : ℕ) → AreLegalFrom w (changes_of entries)
    → AreLegalFrom w (changes_of (take n entries))
legal-first w [] n legal = subst (λ (es : List Entry). AreLegalFrom w (changes_of es)) (sym (take-nil n)) tt
legal-first w (e ∷ entries) zero legal = tt
legal-first w (e ∷ entries) (suc n) legal = (legal.0, legal-first (after w e.change) entries n legal.1)

-- a replay of the first changes fails only for memory
pub no-fault : (entries : List Entry) (n : ℕ) (fault : ChronFault) → AreLegal (changes_of entries)
    → HasIllegal (take n entries) fault → fault ≢ OutOfMemory → ⊥
no-fault entries n OutOfMemory legal has other = other refl
no-fault entries n (BadChange k) legal has other =
    none-illegal (changes_of (take n entries)) k (legal-first opening_state entries n legal) has
no-fault entries n NotHistory legal has other = has
no-fault entries n (BadLine k) legal has other = has
no-fault entries n TooLong legal has other = has
no-fault entries n NoEnd legal has other = has
