-- A desk of a hall is shared.
use Rattle.std.proofs.Common.{◌≡◌, List, [], ◌∷◌, refl, ap}
use Rattle.mud_world.specs.declared.change.Deed.TheVariants.{Say}
use Rattle.mud_chron.specs.Entry.{Entry}
use Rattle.mud_hall.specs.Desk.{DeskState, new_desk, TakesIn}
use Rattle.mud_hall.specs.inner.Desks.{took_in}
use Rattle.mud_session.specs.Session.{IsShared}

sample : Entry
sample = record { desk = 2; change = record { actor = 1; deed = Say [] } }

pub desks_are_shared : IsShared TakesIn
desks_are_shared =
    let old : DeskState = new_desk 1 [] in (
      old,
      took_in old (sample ∷ []),
      record { entries = sample ∷ []; is = refl },
      λ e. let bad : ◌≡◌ {A = List Entry} (sample ∷ []) [] = ap (λ (d : DeskState). d.seen) e in cc,
    )
