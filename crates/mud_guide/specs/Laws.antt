-- Laws of the definitions.
use Rattle.std.specs.Prelude.{◌≡◌, ℕ, List, string_bytes}
use Rattle.mud_roads.specs.declared.label.Step.{Step}
use Rattle.mud_roads.specs.Walks.{Roads, Walk, total, IsLeast, IsRoute}
use Rattle.mud_guide.specs.declared.answer.Answer.{Answer}

-- the canonical route is a least walk
abbrev pub RouteIsLeast : Type 0
RouteIsLeast =
    (roads : Roads) (from to : ℕ) (ss : List Step) → IsRoute 1 roads from to ss
    → Walk roads from ss to × IsLeast 1 roads from to (total 1 ss)

-- both have the same version, the same bytes of text, and the same certificate
abbrev pub AreAlike : Answer → Answer → Type 0
AreAlike a b = (a.version ≡ b.version) × (string_bytes a.text ≡ string_bytes b.text) × (a.cert ≡ b.cert)
