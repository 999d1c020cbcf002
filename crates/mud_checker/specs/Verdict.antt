-- The line and the status of a finding, and of two texts.
use Rattle.std.specs.Prelude.{◌≡◌, ℕ, List, ◌++◌, codes, decimal, string_bytes}
pub use Rattle.mud_key.specs.Printed.{number_text as object_text}
use Rattle.mud_chron.specs.declared.fault.ChronFault.{ChronFault}
use Rattle.mud_chron.specs.declared.fault.ChronFault.TheVariants as faults
use Rattle.mud_cert.specs.declared.doubt.Doubt.{Doubt}
use Rattle.mud_cert.specs.declared.doubt.Doubt.TheVariants as doubts
use Rattle.mud_checker.specs.declared.finding.Finding.{Finding}
use Rattle.mud_checker.specs.declared.finding.Finding.TheVariants as findings
use Rattle.mud_checker.specs.declared.finding.Status.{Status}
use Rattle.mud_checker.specs.declared.finding.Status.TheVariants.{Accepted, Refused, Unreadable}
use Rattle.mud_checker.specs.declared.outcome.Outcome.{Outcome}
use Rattle.mud_checker.specs.Finding.{IsFinding}

-- the text of a doubt
abbrev pub doubt_text : Doubt → List ℕ
doubt_text doubts.OutOfMemory = codes "out of memory"
doubt_text (doubts.NoSuchPlayer player) = codes "no such player " ++ object_text player
doubt_text (doubts.WrongStart player) = codes "wrong start " ++ object_text player
doubt_text (doubts.StartLabel player) = codes "start label " ++ object_text player
doubt_text (doubts.Arc player exit) = codes "arc " ++ object_text exit ++ codes " of " ++ object_text player
doubt_text (doubts.WalkBroken player at) = codes "walk broken at " ++ decimal at ++ codes " of " ++ object_text player
doubt_text (doubts.WalkLocked player at) = codes "walk locked at " ++ decimal at ++ codes " of " ++ object_text player
doubt_text (doubts.WalkCost player) = codes "walk cost of " ++ object_text player
doubt_text doubts.Conclusion = codes "conclusion"

-- the text of a history's fault
abbrev pub fault_text : ChronFault → List ℕ
fault_text faults.OutOfMemory = codes "out of memory"
fault_text faults.NotHistory = codes "not a history"
fault_text (faults.BadLine n) = codes "history line " ++ decimal n
fault_text (faults.BadChange n) = codes "history change " ++ decimal n
fault_text faults.TooLong = codes "history too long"
fault_text faults.NoEnd = codes "history without end"

-- the line of a finding, without its end
abbrev pub finding_text : Finding → List ℕ
finding_text findings.Accepted = codes "accepted"
finding_text (findings.NoVersion version) = codes "refused: version " ++ decimal version
finding_text (findings.Doubted doubt) = codes "refused: " ++ doubt_text doubt
finding_text (findings.BadHistory fault) = codes "unreadable: " ++ fault_text fault
finding_text (findings.BadProof n) = codes "unreadable: proof line " ++ decimal n

-- the status of a finding
abbrev pub status_of : Finding → Status
status_of findings.Accepted = Accepted
status_of (findings.NoVersion version) = Refused
status_of (findings.Doubted doubt) = Refused
status_of finding = Unreadable

-- the exit status
abbrev pub status_code : Status → ℕ
status_code Accepted = 0
status_code Refused = 1
status_code Unreadable = 2

-- the line and the status are those of the finding for the texts
pub record IsVerdict (history proof : List ℕ) (outcome : Outcome) : Type 0 where
  pub finding : Finding
  pub is_found : IsFinding history proof finding
  pub text : string_bytes outcome.text ≡ finding_text finding
  pub status : outcome.status ≡ status_of finding
