-- The answers to a world's keeper.
use Rattle.std.specs.Prelude.{◌≡◌, ℕ, List, Option}
use Rattle.mud_world.specs.History.{world_of}
use Rattle.mud_chron.specs.Entry.{Entry}
use Rattle.mud_chron.specs.Text.{history_text}
use Rattle.mud_chron.specs.declared.format.Format.TheVariants.{Two}
use Rattle.mud_chron.specs.Replay.{changes_of}
use Rattle.mud_compact.specs.Recovery.{KeepsEntries}
use Rattle.mud_compact.specs.declared.reading.TextKind.{TextKind}
use Rattle.mud_renumber.specs.Numbers.{map_text}
use Rattle.mud_renumber.specs.Renumbered.{LeadsToRenumbered}

-- the text is that of a history that leads to the world of the bytes but for its numbers. The map has the old and the
-- new number of each object. Before and after are the next numbers of both worlds
pub record IsCompactText (kind : TextKind) (bytes text map : List ℕ) (torn : Option ℕ) (before after : ℕ) : Type 0 where
  pub entries : List Entry
  pub others : List Entry
  pub f : ℕ → ℕ
  pub kept : KeepsEntries kind bytes entries torn
  pub leads : LeadsToRenumbered f entries others
  pub text_is : text ≡ history_text Two others
  pub map_is : map ≡ map_text f (world_of (changes_of entries))
  pub before_is : before ≡ (world_of (changes_of entries)).next
  pub after_is : after ≡ (world_of (changes_of others)).next
