-- The model of a certificate, and the limits that every certificate keeps.
use Rattle.std.specs.Prelude.{◌≡◌, ℕ, ◌<◌, ◌≤◌, List, length, Option, IfSome, All, AllPairs}
use Rattle.mud_roads.specs.declared.label.Label.{Label}
pub use Rattle.mud_world.specs.Numbers.{IsNumber}
use Rattle.mud_key.specs.declared.limits.TheConstants.{AMOUNTS}
use Rattle.mud_cert.specs.declared.cert.Form.{Form}
use Rattle.mud_cert.specs.declared.cert.Form.TheVariants.{One, Two}
use Rattle.mud_cert.specs.declared.cert.Conclusion.{Conclusion}
use Rattle.mud_cert.specs.declared.cert.Conclusion.TheVariants.{Route, Meet}
use Rattle.mud_world.specs.declared.limits.TheConstants.{MOST_PARTY}

-- the claims about a member: the player, its place, the labels of rooms, and its walk, if one is given
pub record Account : Type 0 where
  pub player : ℕ
  pub from : ℕ
  pub labels : List (ℕ × Label)
  pub walk : Option (List ℕ)

-- a certificate: the version of its world, the form of its labels, its members, and its conclusion
pub record Certificate : Type 0 where
  pub version : ℕ
  pub form : Form
  pub members : List Account
  pub conclusion : Conclusion

-- versions, costs and counts of exits have at most 9 digits
abbrev pub IsAmount : ℕ → Type 0
IsAmount n = n < AMOUNTS

-- labels are sorted by room, and every number is within the limits
pub record IsAccount (a : Account) : Type 0 where
  pub player : IsNumber a.player
  pub from : IsNumber a.from
  pub entries : All (λ (e : ℕ × Label). IsNumber e.0 × IsAmount e.1.cost × IsAmount e.1.exits) a.labels
  pub rising : AllPairs (λ d e. d.0 < e.0) a.labels
  pub exits : IfSome a.walk (All IsNumber)

-- in form one labels count no exits
abbrev pub CountsBy : Form → Account → Type 0
CountsBy One a = All (λ e. e.1.exits ≡ 0) a.labels
CountsBy Two a = Unit {0}

-- the amount that an exit counts in a label
abbrev pub hop_of : Form → ℕ
hop_of One = 0
hop_of Two = 1

-- a route has one member, a meeting 2 to 8; the numbers are within the limits
abbrev pub IsConclusion : ℕ → Conclusion → Type 0
IsConclusion count (Route to cost) = (count ≡ 1) × IsNumber to × IfSome cost IsAmount
IsConclusion count (Meet meeting) =
    (2 ≤ count) × (count ≤ MOST_PARTY) × IfSome meeting (λ m. IsNumber m.room × IsAmount m.cost)

-- the invariant of every certificate
pub record IsCertificate (c : Certificate) : Type 0 where
  pub version : IsAmount c.version
  pub members : All IsAccount c.members
  pub counts : All (CountsBy c.form) c.members
  pub conclusion : IsConclusion (length c.members) c.conclusion
