use Rattle.std.proofs.Common.{subst, sym}
use Rattle.mud_key.specs.Names.{AreNames}
use Rattle.mud_key.specs.inner.NamesTexts.{IsNamesText}
use Rattle.mud_key.proofs.Found.{names_law}
use Rattle.mud_key.proofs.NamesTaken.{are_names}
use Rattle.mud_key.proofs.NamesAreParts.{names_are_parts, parts_are_names}
use Rattle.mud_key.proofs.laws.names.Goals as goal

pub returns : goal.returns
returns c = λ text names. (
  (λ found.
      let spelled : IsNamesText text names = (names_law text names).0 found in
      (names_are_parts text names spelled, are_names text names spelled)),
  (λ is.
      (names_law text names).1 (subst (λ ns. IsNamesText text ns) (sym is.0)
      (parts_are_names text (subst AreNames is.0 is.1)))),
)
