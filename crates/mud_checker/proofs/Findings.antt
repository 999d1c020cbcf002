-- Two texts have at most one finding.
use Rattle.std.proofs.Common.{◌≡◌, ℕ, ◌<◌, ◌≤◌, List, length, take, inl, inr, refl, sym}
use Rattle.std.proofs.Common.{◌∙◌, ap, subst, arith}
use Rattle.mud_world.specs.State.{State}
use Rattle.mud_world.specs.Sound.{IsSound}
use Rattle.mud_world.proofs.Worlds.{worlds_law}
use Rattle.mud_chron.specs.declared.fault.ChronFault.{ChronFault}
use Rattle.mud_chron.specs.declared.fault.ChronFault.TheVariants.{BadChange}
use Rattle.mud_chron.specs.Entry.{Entry}
use Rattle.mud_chron.specs.Laws.{SpellsOne, HasOneFault, FaultsAreNoTexts}
use Rattle.mud_chron.specs.Replay.{changes_of, world_at, IsFirstIllegal}
use Rattle.mud_cert.specs.Certificate.{Certificate, IsCertificate}
use Rattle.mud_cert.specs.Doubts.{IsFirstDoubt}
use Rattle.mud_cert.specs.Valid.{IsValid}
use Rattle.mud_cert.proofs.First.{one-first, doubted-invalid}
use Rattle.mud_cert.specs.Faults.{IsBadLine}
use Rattle.mud_cert.specs.Text.{cert_text}
use Rattle.mud_cert.specs.TextLaws.{OneCertificate, OneBadLine}
use Rattle.mud_checker.specs.declared.finding.Finding.TheVariants.{Accepted, NoVersion, Doubted, BadHistory, BadProof}
use Rattle.mud_checker.specs.declared.finding.Finding.{Finding}
use Rattle.mud_checker.specs.Finding.{without_returns, IsHistory, IsUnfit, IsTried, IsFinding}
use Rattle.mud_checker.specs.Laws.{FindsOne}
use Rattle.mud_checker.proofs.Legality.{none-illegal, first-once}

-- the laws of the two texts
pub record TextLaws : Type 0 where
  pub one_history : SpellsOne
  pub one_fault : HasOneFault
  pub no_fault : FaultsAreNoTexts
  pub one_certificate : OneCertificate
  pub one_bad_line : OneBadLine

-- an unfit text is not a history
not-unfit : TextLaws → (text : List ℕ) (fault : ChronFault) (entries : List Entry)
    → IsUnfit text fault → IsHistory text entries → ⊥
not-unfit laws text fault entries (inl has) is = laws.no_fault text fault entries has is.spells
not-unfit laws text fault entries (inr (n, _, (others, spells, illegal))) is =
    let same = laws.one_history text others entries spells is.spells in
    none-illegal (changes_of entries) n is.legal (subst (λ es. IsFirstIllegal (changes_of es) n) same illegal)

-- a history's text has one fault
one-unfit : TextLaws → (text : List ℕ) (fault other : ChronFault) → IsUnfit text fault
    → IsUnfit text other → fault ≡ other
one-unfit laws text fault other (inl has) (inl owns) = laws.one_fault text fault other has owns
one-unfit laws text fault other (inl has) (inr (n, _, (entries, spells, _))) =
    absurd (laws.no_fault text fault entries has spells)
one-unfit laws text fault other (inr (m, _, (entries, spells, _))) (inl owns) =
    absurd (laws.no_fault text other entries owns spells)
one-unfit laws text fault other (inr (m, e, (entries, spells, bad))) (inr (n, f, (others, spelled, ill))) =
    let same = laws.one_history text entries others spells spelled in
    let first = subst (λ es. IsFirstIllegal (changes_of es) m) same bad in
    e ∙ ap BadChange (first-once (changes_of others) m n first ill) ∙ sym f

-- the entries and the certificate of two texts
record AreSame (entries others : List Entry) (c d : Certificate) : Type 0 where
  pub entries_same : entries ≡ others
  pub cert_same : c ≡ d

-- a version above the number of entries is not within it
not-above : (entries others : List Entry) (c d : Certificate) (version : ℕ) → AreSame entries others c d
    → version ≡ c.version → length entries < version → d.version ≤ length others → ⊥
not-above entries others c d version same is above reached =
    let long : length entries ≡ length others = ap length same.entries_same in
    let one : c.version ≡ d.version = ap (λ (x : Certificate). x.version) same.cert_same in
    absurd (omega (arith, long, one, is, above, reached))

-- the world of a certificate is sound
at-sound : (entries : List Entry) (version : ℕ) → IsSound (world_at entries version)
at-sound entries version = worlds_law (changes_of (take version entries))

-- a fact about a certificate in its world holds for an equal one in an equal world
moved : (entries others : List Entry) (c d : Certificate)
    (P : State → Certificate → Type 0) → AreSame entries others c d
    → P (world_at others d.version) d → P (world_at entries c.version) c
moved entries others c d P same p =
    subst (λ (es : List Entry). P (world_at es c.version) c) (sym same.entries_same)
    (subst (λ (x : Certificate). P (world_at others x.version) x) (sym same.cert_same) p)

-- a certificate has one finding, given these entries
one-tried : (entries others : List Entry) (c d : Certificate) (finding other : Finding)
    → AreSame entries others c d → IsCertificate c
    → IsTried entries c finding → IsTried others d other → finding ≡ other
one-tried entries others c d (NoVersion v) (NoVersion u) same is a b =
    ap NoVersion (a.0 ∙ ap (λ (x : Certificate). x.version) same.cert_same ∙ sym b.0)
one-tried entries others c d (NoVersion v) (Doubted e) same is a b =
    absurd (not-above entries others c d v same a.0 a.1 b.0)
one-tried entries others c d (NoVersion v) Accepted same is a b =
    absurd (not-above entries others c d v same a.0 a.1 b.0)
one-tried entries others c d (Doubted f) (NoVersion u) same is a b =
    absurd (not-above others entries d c u (back same) b.0 b.1 a.0)
  where
    back : AreSame entries others c d → AreSame others entries d c
    back same = record { entries_same = sym same.entries_same; cert_same = sym same.cert_same }
one-tried entries others c d (Doubted f) (Doubted e) same is a b =
    let first : IsFirstDoubt (world_at entries c.version) c e =
    moved entries others c d (λ w x. IsFirstDoubt w x e) same b.1 in
    ap Doubted (one-first (world_at entries c.version) (at-sound entries c.version) c is f e a.1 first)
one-tried entries others c d (Doubted f) Accepted same is a b =
    let valid = moved entries others c d IsValid same b.1 in
    absurd (doubted-invalid (world_at entries c.version) (at-sound entries c.version) c is f a.1 valid)
one-tried entries others c d Accepted (NoVersion u) same is a b =
    absurd (not-above others entries d c u (back same) b.0 b.1 a.0)
  where
    back : AreSame entries others c d → AreSame others entries d c
    back same = record { entries_same = sym same.entries_same; cert_same = sym same.cert_same }
one-tried entries others c d Accepted (Doubted e) same is a b =
    let first : IsFirstDoubt (world_at entries c.version) c e =
    moved entries others c d (λ w x. IsFirstDoubt w x e) same b.1 in
    absurd (doubted-invalid (world_at entries c.version) (at-sound entries c.version) c is e first a.1)
one-tried entries others c d Accepted Accepted same is a b = refl
one-tried entries others c d (BadHistory f) other same is a b = absurd a
one-tried entries others c d (BadProof n) other same is a b = absurd a
one-tried entries others c d (NoVersion v) (BadHistory f) same is a b = absurd b
one-tried entries others c d (NoVersion v) (BadProof n) same is a b = absurd b
one-tried entries others c d (Doubted e) (BadHistory f) same is a b = absurd b
one-tried entries others c d (Doubted e) (BadProof n) same is a b = absurd b
one-tried entries others c d Accepted (BadHistory f) same is a b = absurd b
one-tried entries others c d Accepted (BadProof n) same is a b = absurd b

-- the proof after a history: a bad line, or a certificate with this finding
data Reading (entries : List Entry) (proof : List ℕ) (finding : Finding) : Type 0 where
  Bad : (n : ℕ) → IsBadLine proof n → finding ≡ BadProof n → Reading entries proof finding
  Read : (c : Certificate) → IsCertificate c → proof ≡ cert_text c → IsTried entries c finding
      → Reading entries proof finding

-- the finding for two texts: an unfit history, or a history and the proof after it
data Sorted (history proof : List ℕ) (finding : Finding) : Type 0 where
  Unfit : (f : ChronFault) → IsUnfit (without_returns history) f → finding ≡ BadHistory f → Sorted history proof finding
  Fit : (entries : List Entry) → IsHistory (without_returns history) entries
      → Reading entries (without_returns proof) finding → Sorted history proof finding

sorted : (history proof : List ℕ) (finding : Finding) → IsFinding history proof finding → Sorted history proof finding
sorted history proof (BadHistory f) is = Unfit f is refl
sorted history proof (BadProof n) (entries, spelled, bad) = Fit entries spelled (Bad n bad refl)
sorted history proof (NoVersion v) (entries, spelled, (c, is, text, tried)) = Fit entries spelled (Read c is text tried)
sorted history proof (Doubted d) (entries, spelled, (c, is, text, tried)) = Fit entries spelled (Read c is text tried)
sorted history proof Accepted (entries, spelled, (c, is, text, tried)) = Fit entries spelled (Read c is text tried)

one-read : TextLaws → (entries others : List Entry) (proof : List ℕ) (finding other : Finding) → entries ≡ others
    → Reading entries proof finding → Reading others proof other → finding ≡ other
one-read laws entries others proof finding other same (Bad n bad is) (Bad m worse also) =
    is ∙ ap BadProof (laws.one_bad_line proof n m bad worse) ∙ sym also
one-read laws entries others proof finding other same (Bad n bad is) (Read c cert text tried) =
    absurd (bad.1 c cert text)
one-read laws entries others proof finding other same (Read c cert text tried) (Bad n bad is) =
    absurd (bad.1 c cert text)
one-read laws entries others proof finding other same (Read c cert text tried) (Read d certs texts tries) =
    let one : c ≡ d = laws.one_certificate c d cert certs (sym text ∙ texts) in
    one-tried entries others c d finding other (record { entries_same = same; cert_same = one }) cert tried tries

pub finds-one : TextLaws → FindsOne
finds-one laws history proof finding other a b = go (sorted history proof finding a) (sorted history proof other b)
  where
    go : Sorted history proof finding → Sorted history proof other → finding ≡ other
    go (Unfit f bad is) (Unfit g worse also) =
        is ∙ ap BadHistory (one-unfit laws (without_returns history) f g bad worse) ∙ sym also
    go (Unfit f bad is) (Fit entries spelled read) =
        absurd (not-unfit laws (without_returns history) f entries bad spelled)
    go (Fit entries spelled read) (Unfit f bad is) =
        absurd (not-unfit laws (without_returns history) f entries bad spelled)
    go (Fit entries spelled read) (Fit others also reads) =
        one-read laws entries others (without_returns proof) finding other
        (laws.one_history (without_returns history) entries others spelled.spells also.spells) read reads
