-- The one text of a certificate.
use Rattle.std.specs.Prelude.{ℕ, List, [], ◌∷◌, ◌++◌, Option, Some, None, codes, decimal}
use Rattle.std.specs.List.{flat_map}
use Rattle.mud_key.specs.declared.codes.TheConstants.{LF}
use Rattle.mud_roads.specs.declared.label.Label.{Label}
use Rattle.mud_cert.specs.declared.cert.Form.{Form}
use Rattle.mud_cert.specs.declared.cert.Form.TheVariants.{One, Two}
use Rattle.mud_cert.specs.declared.cert.Conclusion.{Conclusion}
use Rattle.mud_cert.specs.declared.cert.Conclusion.TheVariants.{Route, Meet}
use Rattle.mud_cert.specs.Certificate.{Account, Certificate}

-- the text that the lines make, each with the LF that ends it
abbrev pub text_of : List (List ℕ) → List ℕ
text_of lines = flat_map (λ line. line ++ LF ∷ []) lines

-- the first line names the form
abbrev pub head_line : Form → List ℕ
head_line One = codes "mud proof 1"
head_line Two = codes "mud proof 2"

-- a room with its cost, and in form two its exits
abbrev pub entry_text : Form → ℕ × Label → List ℕ
entry_text One e = codes " #" ++ decimal e.0 ++ codes ":" ++ decimal e.1.cost
entry_text Two e = codes " #" ++ decimal e.0 ++ codes ":" ++ decimal e.1.cost ++ codes "/" ++ decimal e.1.exits

-- the exits of a walk, after a word: ` #3 #5`, or ` nothing`
abbrev pub exits_text : List ℕ → List ℕ
exits_text [] = codes " nothing"
exits_text exits = flat_map (λ exit. codes " #" ++ decimal exit) exits

abbrev pub walk_line : Option (List ℕ) → List ℕ
walk_line None = codes "walk none"
walk_line (Some exits) = codes "walk" ++ exits_text exits

-- the three lines of a member: the player and its place, its labels, and its walk
abbrev pub member_lines : Form → Account → List (List ℕ)
member_lines form a =
    (codes "member #" ++ decimal a.player ++ codes " from #" ++ decimal a.from)
    ∷ (codes "labels" ++ flat_map (entry_text form) a.labels) ∷ walk_line a.walk ∷ []

abbrev pub conclusion_line : Conclusion → List ℕ
conclusion_line (Route to (Some cost)) = codes "route #" ++ decimal to ++ codes " cost " ++ decimal cost
conclusion_line (Route to None) = codes "route #" ++ decimal to ++ codes " no way"
conclusion_line (Meet (Some m)) = codes "meet #" ++ decimal m.room ++ codes " cost " ++ decimal m.cost
conclusion_line (Meet None) = codes "meet none"

-- the lines of a certificate: its form, its version, its members, its conclusion, and the end
unfoldable pub cert_lines : Certificate → List (List ℕ)
cert_lines c =
    head_line c.form ∷ (codes "version " ++ decimal c.version) ∷ flat_map (member_lines c.form) c.members
    ++ conclusion_line c.conclusion ∷ codes "end" ∷ []

unfoldable pub cert_text : Certificate → List ℕ
cert_text c = text_of (cert_lines c)
