-- The line at which a text stops being a prefix of a certificate's.
use Rattle.std.specs.Prelude.{◌≡◌, ℕ, ◌≤◌, List, ◌++◌, length, take}
use Rattle.mud_world.specs.FirstFailure.{FailsAt}
use Rattle.mud_cert.specs.Certificate.{Certificate, IsCertificate}
use Rattle.mud_cert.specs.Text.{text_of, cert_lines, cert_text}

-- the bytes begin with the first n lines of some certificate, each with its LF
abbrev pub Begins : List ℕ → ℕ → Type 0
Begins bytes count =
    (c : Certificate) × IsCertificate c × (count ≤ length (cert_lines c))
    × ((rest : List ℕ) × (bytes ≡ text_of (take count (cert_lines c)) ++ rest))

-- line n is bad: the bytes are not a certificate, and their lines before n begin one, but not their first n lines
abbrev pub IsBadLine : List ℕ → ℕ → Type 0
IsBadLine bytes n = FailsAt (Begins bytes) n × ((c : Certificate) → IsCertificate c → bytes ≡ cert_text c → ⊥)
