-- A change whose numbers are in their ranges is spellable.
use Rattle.std.proofs.Common.{◌≤◌, ℕ}
use Rattle.mud_world.specs.declared.change.Change.{Change}
use Rattle.mud_chron.specs.declared.limits.TheConstants.{MOST_DESKS}
use Rattle.mud_chron.specs.Entry.{IsNumber, IsInRange, IsSpellable}

pub spelled : (desk : ℕ) (change : Change) → 1 ≤ desk → desk ≤ MOST_DESKS → IsNumber change.actor
    → IsInRange change.deed → IsSpellable desk change
spelled desk change from to actor deed = record {
  desk_from = from;
  desk_to = to;
  actor = actor;
  deed = deed;
}
