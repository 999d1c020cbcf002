-- Lines of the console, and their orders.
use Rattle.std.specs.Prelude.{ℕ, ◌==◌, Bool, Option, None, Some, is_some, option_map, if◌then◌else◌, List, ◌∷◌, []}
use Rattle.std.specs.Prelude.{length, codes, bytes_eq}
use Rattle.std.specs.Option.{option_and_then}
use Rattle.std.specs.List.{position, before_first, after_first}
use Rattle.std.specs.Str.{trim, trim_start}
use Rattle.mud_console.specs.Texts.{number_in, can_be_told}
use Rattle.mud_console.specs.declared.order.Order.{Order}

-- an order, with the bytes of its address or text
pub data Asked : Type 0 where
  Status : Asked
  Sessions : Asked
  End : ℕ → Asked
  Ban : List ℕ → Asked
  Unban : List ℕ → Asked
  Bans : Asked
  Tell : List ℕ → Asked
  Stop : Asked
  StopIn : ℕ → Asked
  Stay : Asked
  Volume : Asked
  Reopen : Asked
  Help : Asked

-- the order of the code
abbrev pub asked_of : Order → Asked
asked_of Order.Status = Status
asked_of Order.Sessions = Sessions
asked_of (Order.End n) = End n
asked_of (Order.Ban text) = Ban text.now
asked_of (Order.Unban text) = Unban text.now
asked_of Order.Bans = Bans
asked_of (Order.Tell text) = Tell text.now
asked_of Order.Stop = Stop
asked_of (Order.StopIn n) = StopIn n
asked_of Order.Stay = Stay
asked_of Order.Volume = Volume
asked_of Order.Reopen = Reopen
asked_of Order.Help = Help

-- the byte of a blank
abbrev pub is_blank : ℕ → Bool
is_blank b = b == 32

-- the first word of a line: the text before its first blank, without white space around the line
abbrev pub word_of : List ℕ → List ℕ
word_of line = before_first is_blank (trim line)

-- the argument of a line: the text after the first blank, without white space around it
abbrev pub rest_of : List ℕ → List ℕ
rest_of line =
    if is_some (position is_blank (trim line)) then trim_start (after_first is_blank (trim line)) else []

-- the value of a table's first row with this word
abbrev pub row_of : {A : Type 0} → List ℕ → List (List ℕ × A) → Option A
row_of word [] = None
row_of word (row ∷ rows) = if bytes_eq word row.0 then Some row.1 else row_of word rows

-- the order of a word without an argument
abbrev pub asked_alone : List ℕ → Option Asked
asked_alone word = row_of word (
    (codes "status", Status)
    ∷ (codes "sessions", Sessions)
    ∷ (codes "bans", Bans)
    ∷ (codes "stop", Stop)
    ∷ (codes "stay", Stay)
    ∷ (codes "volume", Volume)
    ∷ (codes "reopen", Reopen)
    ∷ (codes "help", Help)
    ∷ [])

-- the order of `stop` with an argument: `in` and a number of seconds
abbrev pub asked_in_time : List ℕ → Option Asked
asked_in_time rest =
    if bytes_eq (word_of rest) (codes "in") then option_map StopIn (number_in (rest_of rest)) else None

-- the order of a word with an argument
abbrev pub asked_with : (word rest : List ℕ) → Option Asked
asked_with word rest = option_and_then (λ asked. asked) (row_of word (
    (codes "end", option_map End (number_in rest))
    ∷ (codes "ban", Some (Ban rest))
    ∷ (codes "unban", Some (Unban rest))
    ∷ (codes "tell", if can_be_told rest then Some (Tell rest) else None)
    ∷ (codes "stop", asked_in_time rest)
    ∷ []))

-- the order of a line, if it is one
abbrev pub asked_in : List ℕ → Option Asked
asked_in line =
    if length (rest_of line) == 0 then asked_alone (word_of line) else asked_with (word_of line) (rest_of line)
