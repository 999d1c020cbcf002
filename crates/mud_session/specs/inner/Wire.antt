-- Parts of the output.
use Rattle.std.specs.Prelude.{ℕ, ◌==◌, List, [], ◌∷◌, if◌then◌else◌}
use Rattle.mud_nvt.specs.declared.codes.TheConstants.{LF, CR}

-- an encoded line ends with CR LF
abbrev pub on_wire : ℕ → List ℕ
on_wire b = if b == LF then CR ∷ LF ∷ [] else b ∷ []
