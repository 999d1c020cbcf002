use Rattle.std.proofs.Common.{rules, [], ◌∷◌}
use Rattle.mud_theorems.proofs.Claims.{begins}
use Rattle.mud_theorems.proofs.serving.serve_together.Goals as goal

pub ruled-requires : goal.ruled-requires
ruled-requires g c = (search rules, (search rules, begins (0 ∷ [])))
