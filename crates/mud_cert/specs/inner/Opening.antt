-- The members of a certificate that were read so far.
use Rattle.std.specs.Prelude.{ℕ, ◌≤◌, List, length, All}
use Rattle.mud_cert.specs.declared.cert.Form.{Form}
use Rattle.mud_cert.specs.Certificate.{Account, IsAmount, IsAccount, CountsBy}
use Rattle.mud_world.specs.declared.limits.TheConstants.{MOST_PARTY}

-- the version of the world, the form of the labels, and the members so far
pub record Opening : Type 0 where
  pub form : Form
  pub version : ℕ
  pub members : List Account

-- the limits of a certificate, before its conclusion
pub record IsOpening (p : Opening) : Type 0 where
  pub version : IsAmount p.version
  pub members : All IsAccount p.members
  pub counts : All (CountsBy p.form) p.members
  pub few : length p.members ≤ MOST_PARTY
