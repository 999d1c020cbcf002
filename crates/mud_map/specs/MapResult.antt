-- The map of a world, and the parts of a certificate that are drawn in it.
use Rattle.std.specs.Prelude.{◌≡◌, ℕ, ◌≤◌, ◌<◌, List, length, Option}
use Rattle.mud_world.specs.History.{world_of}
use Rattle.mud_chron.specs.Entry.{Entry}
use Rattle.mud_chron.specs.Replay.{changes_of, world_at, AreLegal}
use Rattle.mud_cert.specs.declared.fault.CertFault.TheVariants.{BadLine}
use Rattle.mud_cert.specs.Certificate.{Certificate, IsCertificate}
use Rattle.mud_cert.specs.Text.{cert_text}
use Rattle.mud_cert.specs.Faults.{IsBadLine}
use Rattle.mud_checker.specs.Finding.{without_returns}
use Rattle.mud_compact.specs.declared.reading.TextKind.{TextKind}
use Rattle.mud_compact.specs.Recovery.{KeepsEntries}
use Rattle.mud_compact.specs.Answer.{KeepsNoWorld}
use Rattle.mud_map.specs.Map.{map_text, drawing_of, blank}
use Rattle.mud_map.specs.declared.mapping.NoMap.{NoMap}
use Rattle.mud_map.specs.declared.mapping.NoMap.TheVariants.{History, Proof, Version}

-- the text is the map of the world of the entries in the bytes, all of which are legal
pub record IsMap (kind : TextKind) (bytes text : List ℕ) (torn : Option ℕ) : Type 0 where
  pub entries : List Entry
  pub kept : KeepsEntries kind bytes entries torn
  pub legal : AreLegal (changes_of entries)
  pub text_is : text ≡ map_text (world_of (changes_of entries)) blank

-- the text is the map of the world of the certificate's version, and the certificate is drawn in
pub record IsMapWith (kind : TextKind) (bytes proof text : List ℕ) (torn : Option ℕ) : Type 0 where
  pub entries : List Entry
  pub kept : KeepsEntries kind bytes entries torn
  pub legal : AreLegal (changes_of entries)
  pub cert : Certificate
  pub is : IsCertificate cert
  pub proof_is : without_returns proof ≡ cert_text cert
  pub reached : cert.version ≤ length entries
  pub text_is : text ≡ map_text (world_at entries cert.version) (drawing_of cert)

-- the certificate is about a version beyond the number of changes in the history
pub record IsBeyond (kind : TextKind) (bytes proof : List ℕ) (version changes : ℕ) : Type 0 where
  pub entries : List Entry
  pub torn : Option ℕ
  pub kept : KeepsEntries kind bytes entries torn
  pub cert : Certificate
  pub proof_is : without_returns proof ≡ cert_text cert
  pub version_is : version ≡ cert.version
  pub changes_is : changes ≡ length entries
  pub beyond : changes < version

-- the reason why there is no map
abbrev pub HasNoMap : TextKind → List ℕ → List ℕ → NoMap → Type 0
HasNoMap kind bytes proof (History fault) = KeepsNoWorld kind bytes fault
HasNoMap kind bytes proof (Proof fault) = (n : ℕ) → fault ≡ BadLine n → IsBadLine (without_returns proof) n
HasNoMap kind bytes proof (Version version changes) = IsBeyond kind bytes proof version changes
