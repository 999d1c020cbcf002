-- The finding for two texts: a history's and a proof's.
use Rattle.std.specs.Prelude.{◌≡◌, ℕ, ◌<◌, ◌≤◌, ◌⊎◌, ◌==◌, nat_eq, ◌&&◌, if◌then◌else◌}
use Rattle.std.specs.Prelude.{List, [], ◌∷◌, length}
use Rattle.std.specs.List.{starts_with}
use Rattle.mud_key.specs.declared.codes.TheConstants.{LF, CR}
use Rattle.mud_chron.specs.declared.fault.ChronFault.{ChronFault}
use Rattle.mud_chron.specs.declared.fault.ChronFault.TheVariants.{BadChange}
use Rattle.mud_chron.specs.Entry.{Entry}
use Rattle.mud_chron.specs.History.{SpellsHistory}
use Rattle.mud_chron.specs.Faults.{HasFault}
use Rattle.mud_chron.specs.Replay.{changes_of, world_at, AreLegal, IsFirstIllegal}
use Rattle.mud_cert.specs.Certificate.{Certificate, IsCertificate}
use Rattle.mud_cert.specs.Text.{cert_text}
use Rattle.mud_cert.specs.Faults.{IsBadLine}
use Rattle.mud_cert.specs.Doubts.{IsFirstDoubt}
use Rattle.mud_cert.specs.Valid.{IsValid, Optimal}
use Rattle.mud_checker.specs.declared.finding.Finding.{Finding}
use Rattle.mud_checker.specs.declared.finding.Finding.TheVariants.{Accepted, NoVersion, Doubted, BadHistory, BadProof}

-- the bytes without each CR directly before a LF
abbrev pub without_returns : List ℕ → List ℕ
without_returns [] = []
without_returns (b ∷ bytes) =
    if b == CR && starts_with nat_eq bytes (LF ∷ []) then without_returns bytes else b ∷ without_returns bytes

-- the text spells these entries, and each is legal where it occurs
pub record IsHistory (text : List ℕ) (entries : List Entry) : Type 0 where
  pub spells : SpellsHistory text entries
  pub legal : AreLegal (changes_of entries)

-- the fault of a history's text: that of its bytes, or it spells entries, and one of them is the first illegal one
abbrev pub IsUnfit : List ℕ → ChronFault → Type 0
IsUnfit text fault =
    HasFault text fault
    ⊎ ((n : ℕ) × (fault ≡ BadChange n) × ((entries : List Entry) × SpellsHistory text entries
    × IsFirstIllegal (changes_of entries) n))

-- the finding for a certificate, given these entries: its version is compared, then it is checked in that world
abbrev pub IsTried : List Entry → Certificate → Finding → Type 0
IsTried entries c (NoVersion version) = (version ≡ c.version) × (length entries < version)
IsTried entries c (Doubted doubt) = (c.version ≤ length entries) × IsFirstDoubt (world_at entries c.version) c doubt
IsTried entries c Accepted =
    (c.version ≤ length entries) × IsValid (world_at entries c.version) c × Optimal (world_at entries c.version) c
IsTried entries c finding = ⊥

-- the proof, after these entries, has this bad line, or is the text of a certificate with this finding
abbrev pub IsRead : List Entry → List ℕ → Finding → Type 0
IsRead entries proof (BadProof n) = IsBadLine proof n
IsRead entries proof finding = (c : Certificate) × IsCertificate c × (proof ≡ cert_text c) × IsTried entries c finding

-- the finding for two texts, ignoring CRs at line ends: the whole history is replayed, then the proof is read
abbrev pub IsFinding : List ℕ → List ℕ → Finding → Type 0
IsFinding history proof (BadHistory fault) = IsUnfit (without_returns history) fault
IsFinding history proof finding =
    (entries : List Entry) × IsHistory (without_returns history) entries
    × IsRead entries (without_returns proof) finding
