-- The meaning of the lines read so far, and the effect of one more line.
use Rattle.std.specs.Prelude.{ℕ, ◌<◌, ◌==◌, nat_lt, nat_le, Bool, ◌&&◌, if◌then◌else◌}
use Rattle.std.specs.Prelude.{List, [], ◌∷◌, ◌++◌, length, Option, None, Some, codes}
use Rattle.std.specs.Str.{bytes_eq}
use Rattle.mud_cert.specs.declared.cert.Conclusion.{Conclusion}
use Rattle.mud_cert.specs.declared.cert.Conclusion.TheVariants.{Route, Meet}
use Rattle.mud_cert.specs.declared.stage.Stage.{Stage}
use Rattle.mud_cert.specs.declared.stage.Stage.TheVariants.{Nothing, Headed, Open, Placed, Labelled, Concluded, Whole}
use Rattle.mud_cert.specs.Certificate.{Certificate, IsNumber, IsAccount, IsCertificate, CountsBy}
use Rattle.mud_cert.specs.inner.Opening.{Opening, IsOpening}
use Rattle.mud_cert.specs.Text.{head_line, conclusion_line, cert_lines}
use Rattle.mud_cert.specs.inner.Lines.{member_line, labels_line, opening_lines}
use Rattle.mud_cert.specs.inner.Reader.{◌>>=◌, head_at, version_at, member_at, labels_at, walk_at, conclusion_at}
use Rattle.mud_world.specs.declared.limits.TheConstants.{MOST_PARTY}

-- the certificate of the members with that conclusion
abbrev pub certificate_with : Opening → Conclusion → Certificate
certificate_with p c = record { version = p.version; form = p.form; members = p.members; conclusion = c }

-- the lines that lead to the stage
unfoldable pub lines_of : Stage → List (List ℕ)
lines_of Nothing = []
lines_of (Headed form) = head_line form ∷ []
lines_of (Open p) = opening_lines p.form p.version p.members
lines_of (Placed p player from) = opening_lines p.form p.version p.members ++ member_line player from ∷ []
lines_of (Labelled p m) =
    opening_lines p.form p.version p.members ++ member_line m.player m.from ∷ labels_line p.form m.labels ∷ []
lines_of (Concluded c) = opening_lines c.form c.version c.members ++ conclusion_line c.conclusion ∷ []
lines_of (Whole c) = cert_lines c

-- the stage keeps the limits
unfoldable pub IsStage : Stage → Type 0
IsStage Nothing = Unit {0}
IsStage (Headed form) = Unit {0}
IsStage (Open p) = IsOpening p
IsStage (Placed p player from) = IsOpening p × (length p.members < MOST_PARTY) × IsNumber player × IsNumber from
IsStage (Labelled p m) = IsOpening p × (length p.members < MOST_PARTY) × IsAccount m × CountsBy p.form m
IsStage (Concluded c) = IsCertificate c
IsStage (Whole c) = IsCertificate c

-- a route has one member, a meeting 2 to 8
abbrev pub suits : ℕ → Conclusion → Bool
suits count (Route to cost) = count == 1
suits count (Meet meeting) = nat_le 2 count && nat_le count MOST_PARTY

-- the stage after a line that follows the members and is not a member's
unfoldable pub conclude : Opening → Option Conclusion → Option Stage
conclude p None = None
conclude p (Some c) = if suits (length p.members) c then Some (Concluded (certificate_with p c)) else None

-- the stage after a line that follows the members
unfoldable pub join : Opening → Option (ℕ × ℕ) → List ℕ → Option Stage
join p None line = conclude p (conclusion_at line)
join p (Some m) line = if nat_lt (length p.members) MOST_PARTY then Some (Placed p m.0 m.1) else None

-- the stage after one more line, or None if no certificate continues this way
unfoldable pub next : Stage → List ℕ → Option Stage
next Nothing line = head_at line >>= λ form. Some (Headed form)
next (Headed form) line =
    version_at line >>= λ version. Some (Open (record { form = form; version = version; members = [] }))
next (Open p) line = join p (member_at line) line
next (Placed p player from) line =
    labels_at p.form line >>= λ labels.
    Some (Labelled p (record { player = player; from = from; labels = labels; walk = None }))
next (Labelled p m) line =
    walk_at line >>= λ walk. Some (Open (record p { members = p.members ++ record m { walk = walk } ∷ [] }))
next (Concluded c) line = if bytes_eq line (codes "end") then Some (Whole c) else None
next (Whole c) line = None

-- the stage after these lines
unfoldable pub run : Stage → List (List ℕ) → Option Stage
run s [] = Some s
run s (line ∷ lines) = next s line >>= λ t. run t lines
