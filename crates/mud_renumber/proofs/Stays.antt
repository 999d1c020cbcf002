-- A shorter history leads to a world in which all numbers stay.
use Rattle.std.proofs.Common.{List, sym, subst}
use Rattle.mud_world.specs.State.{State}
use Rattle.mud_world.specs.History.{world_of}
use Rattle.mud_chron.specs.Entry.{Entry}
use Rattle.mud_chron.specs.Replay.{changes_of}
use Rattle.mud_compact.specs.Shorter.{IsShortened}
use Rattle.mud_renumber.specs.Renumbered.{IsRenumbered, LeadsToRenumbered}
use Rattle.mud_renumber.proofs.Compared.{itself}

pub stays : (entries shorter : List Entry) → IsShortened entries shorter
    → LeadsToRenumbered (λ n. n) entries shorter
stays entries shorter s = record {
  legal = s.same.legal;
  others_legal = s.same.others_legal;
  renumbered =
      subst (λ (u : State). IsRenumbered (λ n. n) (world_of (changes_of entries)) u) (sym s.same.world)
      (itself (world_of (changes_of entries)));
  no_longer = s.no_longer;
}
