-- The results of desks' steps, as text.
use Rattle.std.specs.Prelude.{ℕ, List, ◌++◌, length, codes}
use Rattle.std.specs.Fmt.{decimal}
use Rattle.std.specs.List.{flat_map}
use Rattle.mud_chron.specs.Entry.{Entry}
use Rattle.mud_chron.specs.inner.Texts.{written_text}
use Rattle.mud_hall.specs.declared.fault.Fault.{Fault}
use Rattle.mud_hall.specs.declared.fault.Fault.TheVariants as fault
use Rattle.mud_hall.specs.declared.fault.CloseFault.{CloseFault}
use Rattle.mud_hall.specs.declared.fault.CloseFault.TheVariants.{OutOfMemory, SameNumber, Missing, Mismatch}
use Rattle.mud_hall.specs.Replies.{Reply, Accepted, Became, Refused, Question, Failed}
use Rattle.mud_hall.specs.Answers.{Answered}

abbrev pub fault_line : Fault → List ℕ
fault_line fault.OutOfMemory = codes "(out of memory)\n"
fault_line fault.HistoryFull = codes "(history full)\n"
fault_line fault.Unpublished = codes "(not stored)\n"
fault_line fault.DesksFull = codes "desks full\n"

abbrev pub reply_line : Reply → List ℕ
reply_line (Accepted v text) = codes "accepted [" ++ decimal v ++ codes "] " ++ text ++ codes "\n"
reply_line (Became v text) = codes "became [" ++ decimal v ++ codes "] " ++ text ++ codes "\n"
reply_line (Refused v f text) = codes "refused [" ++ decimal v ++ codes "] " ++ text ++ codes "\n"
reply_line (Question v) = codes "question " ++ decimal v ++ codes "\n"
reply_line (Failed fault) = fault_line fault

abbrev pub answer_lines : Answered → List ℕ
answer_lines a = codes "[" ++ decimal a.version ++ codes "] " ++ a.text ++ codes "\n"

-- the number of entries that a desk has seen
abbrev pub seen_line : ℕ → List ℕ
seen_line n = codes "seen " ++ decimal n ++ codes "\n"

-- the number of notices of a desk, and the notices
abbrev pub told_lines : List (List ℕ) → List ℕ
told_lines lines = codes "told " ++ decimal (length lines) ++ codes "\n" ++ flat_map (λ line. line ++ codes "\n") lines

-- the numbers of accepted and of loaded entries, and the text of the history
abbrev pub settled_lines : ℕ → ℕ → List Entry → List ℕ
settled_lines accepted loaded history =
    codes "settled " ++ decimal (length history) ++ codes " accepted " ++ decimal accepted ++ codes " loaded "
    ++ decimal loaded ++ codes "\n" ++ written_text history

-- the reason why the hall was not closed
abbrev pub unsettled_line : CloseFault → List ℕ
unsettled_line OutOfMemory = fault_line fault.OutOfMemory
unsettled_line (SameNumber n) = codes "same number " ++ decimal n ++ codes "\n"
unsettled_line (Missing n) = codes "missing " ++ decimal n ++ codes "\n"
unsettled_line (Mismatch v) = codes "mismatch " ++ decimal v ++ codes "\n"
