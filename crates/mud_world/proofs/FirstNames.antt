-- The names of the first room and the first player are names texts.
use Rattle.std.proofs.Common.{[], ◌∷◌, refl}
use Rattle.std.specs.Prelude.{codes}
use Rattle.mud_key.specs.inner.NamesTexts.{IsNamesText}
use Rattle.mud_key.proofs.NamesSound.{names_sound}

pub hall_text : IsNamesText (codes "The Hall") (codes "The Hall" ∷ [])
hall_text =
    names_sound (codes "The Hall") (record { list = []; text = codes "The Hall"; spaces = 0 })
    (codes "The Hall" ∷ []) refl refl

pub wizard_text : IsNamesText (codes "Wizard") (codes "Wizard" ∷ [])
wizard_text =
    names_sound (codes "Wizard") (record { list = []; text = codes "Wizard"; spaces = 0 })
    (codes "Wizard" ∷ []) refl refl
