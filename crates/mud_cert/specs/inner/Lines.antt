-- Lines of a certificate one by one, as they are written and read.
use Rattle.std.specs.Prelude.{ℕ, List, [], ◌∷◌, ◌++◌, codes, decimal}
use Rattle.std.specs.List.{flat_map}
use Rattle.mud_key.specs.declared.codes.TheConstants.{LF}
use Rattle.mud_roads.specs.declared.label.Label.{Label}
use Rattle.mud_cert.specs.declared.cert.Form.{Form}
use Rattle.mud_cert.specs.Certificate.{Account, IsNumber, IsAmount}
use Rattle.mud_cert.specs.Text.{head_line, entry_text, member_lines}

-- a room and its label are within the limits
abbrev pub IsEntry : ℕ × Label → Type 0
IsEntry e = IsNumber e.0 × IsAmount e.1.cost × IsAmount e.1.exits

-- a line with the LF that ends it
abbrev pub with_line_feed : List ℕ → List ℕ
with_line_feed line = line ++ LF ∷ []

-- an exit of a walk
abbrev pub exit_text : ℕ → List ℕ
exit_text exit = codes " #" ++ decimal exit

-- the second line has the version
abbrev pub version_line : ℕ → List ℕ
version_line version = codes "version " ++ decimal version

-- a member's first line has the player and its place
abbrev pub member_line : ℕ → ℕ → List ℕ
member_line player from = codes "member #" ++ decimal player ++ codes " from #" ++ decimal from

-- a member's second line has its labels
abbrev pub labels_line : Form → List (ℕ × Label) → List ℕ
labels_line form labels = codes "labels" ++ flat_map (entry_text form) labels

-- all lines but those of the conclusion
abbrev pub opening_lines : Form → ℕ → List Account → List (List ℕ)
opening_lines form version members = head_line form ∷ version_line version ∷ flat_map (member_lines form) members
