-- Laws about the texts of certificates and their bad lines.
use Rattle.std.specs.Prelude.{◌≡◌, ◌≢◌, ℕ, List, [], ◌∷◌, ◌++◌, All}
use Rattle.mud_key.specs.declared.codes.TheConstants.{LF, CR}
use Rattle.mud_roads.specs.Laws.{IsOne}
use Rattle.mud_cert.specs.Certificate.{Certificate, IsCertificate}
use Rattle.mud_cert.specs.Text.{cert_text}
use Rattle.mud_cert.specs.Faults.{IsBadLine}

-- a text belongs to at most one certificate
abbrev pub OneCertificate : Type 0
OneCertificate = (c d : Certificate) → IsCertificate c → IsCertificate d → cert_text c ≡ cert_text d → c ≡ d

-- a text has at most one bad line
abbrev pub OneBadLine : Type 0
OneBadLine = (bytes : List ℕ) → IsOne (IsBadLine bytes)

-- the text of a certificate ends with LF
abbrev pub EndsWithLf : Type 0
EndsWithLf = (c : Certificate) → (front : List ℕ) × (cert_text c ≡ front ++ LF ∷ [])

-- the text of a certificate contains no CR
abbrev pub HasNoReturn : Type 0
HasNoReturn = (c : Certificate) → IsCertificate c → All (λ b. b ≢ CR) (cert_text c)
