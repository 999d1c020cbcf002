-- The settlement of a hall: the history that its desks made.
use Rattle.std.specs.Prelude.{◌≡◌, ◌≢◌, ℕ, ◌+◌, ◌<◌, ◌≤◌, ◌⊎◌, ◌==◌, nat_lt, if◌then◌else◌, Option, Some, None}
use Rattle.std.specs.Prelude.{List, [], ◌∷◌, ◌++◌, length, take, drop, slice_get, All, Any}
use Rattle.std.specs.List.{AllPairs}
use mathlib.Core.List.{IsPrefix}
use Rattle.mud_chron.specs.declared.limits.TheConstants.{MOST_DESKS}
use Rattle.mud_chron.specs.Entry.{Entry}
use Rattle.mud_hall.specs.declared.fault.CloseFault.{CloseFault}
use Rattle.mud_hall.specs.declared.fault.CloseFault.TheVariants.{OutOfMemory, SameNumber, Missing, Mismatch}
use Rattle.mud_hall.specs.Desk.{View}

-- the versions, from v on, of the entries with the number n
abbrev pub versions_by : ℕ → ℕ → List Entry → List ℕ
versions_by n v [] = []
versions_by n v (e ∷ es) = (if e.desk == n then v ∷ [] else []) ++ versions_by n (v + 1) es

-- the entries of a history after the loaded ones
abbrev pub entries_made : List Entry → List Entry → List Entry
entries_made loaded history = drop (length loaded) history

-- some desk has the number
abbrev pub HasNumber : List View → ℕ → Type 0
HasNumber desks n = Any (λ d. d.state.number ≡ n) desks

-- no two desks have equal numbers
abbrev pub AreApart : List View → Type 0
AreApart desks = AllPairs (λ c d. c.state.number ≢ d.state.number) desks

-- the longest of the loaded entries and of those that each desk knows: each of them is a prefix of it
pub record IsGathered (loaded : List Entry) (desks : List View) (history : List Entry) : Type 0 where
  pub begun : IsPrefix loaded history
  pub known : All (λ d. IsPrefix d.state.seen history) desks
  pub some : (history ≡ loaded) ⊎ Any (λ d. history ≡ d.state.seen) desks

-- the history that these desks made: after the loaded entries it is the calls of the desks, each once and in order
pub record IsSettled (loaded : List Entry) (desks : List View) (history : List Entry) : Type 0 where
  pub gathered : IsGathered loaded desks history
  pub calls : All (λ d. d.state.calls ≡ versions_by d.state.number (length loaded + 1) (entries_made loaded history))
      desks
  pub apart : AreApart desks
  pub named : All (λ e. HasNumber desks e.desk) (entries_made loaded history)

-- a desk has the number, and so has an earlier one
abbrev pub HaveSameNumber : List View → ℕ → Type 0
HaveSameNumber desks n =
    (j : ℕ) × (d : View) × (slice_get desks j ≡ Some d) × (d.state.number ≡ n) × HasNumber (take j desks) n

-- the least number from 1 to 64 that no desk has
pub record IsMissing (desks : List View) (n : ℕ) : Type 0 where
  pub from : 1 ≤ n
  pub to : n ≤ MOST_DESKS
  pub none : HasNumber desks n → ⊥
  pub least : (k : ℕ) → k + 1 < n → HasNumber desks (k + 1)

-- the first number at which two increasing lists differ
abbrev pub first_apart : List ℕ → List ℕ → Option ℕ
first_apart [] [] = None
first_apart [] (w ∷ ws) = Some w
first_apart (v ∷ vs) [] = Some v
first_apart (v ∷ vs) (w ∷ ws) = if v == w then first_apart vs ws else Some (if nat_lt v w then v else w)

-- among the entries from version `first` on, the entry at v contradicts the calls of some desk, or has the number of no
-- desk
abbrev pub IsAtOdds : List View → ℕ → List Entry → ℕ → Type 0
IsAtOdds desks first entries v =
    Any (λ d. first_apart d.state.calls (versions_by d.state.number first entries) ≡ Some v) desks
    ⊎ ((i : ℕ) × (e : Entry) × (v ≡ first + i) × (slice_get entries i ≡ Some e) × (HasNumber desks e.desk → ⊥))

-- the least such version, in the history of the desks and the loaded entries
pub record IsMismatch (loaded : List Entry) (desks : List View) (v : ℕ) : Type 0 where
  pub history : List Entry
  pub gathered : IsGathered loaded desks history
  pub odds : IsAtOdds desks (length loaded + 1) (entries_made loaded history) v
  pub least : (u : ℕ) → IsAtOdds desks (length loaded + 1) (entries_made loaded history) u → v ≤ u

-- the condition of each fault of a settlement; two desks with one number come first
abbrev pub IsCloseFault : List Entry → List View → CloseFault → Type 0
IsCloseFault loaded desks OutOfMemory = Unit {0}
IsCloseFault loaded desks (SameNumber n) = HaveSameNumber desks n × ((m : ℕ) → HaveSameNumber desks m → n ≤ m)
IsCloseFault loaded desks (Missing n) = AreApart desks × IsMissing desks n
IsCloseFault loaded desks (Mismatch v) = AreApart desks × IsMismatch loaded desks v
