-- Shorter histories of the same world.
use Rattle.std.specs.Prelude.{◌≡◌, ◌≤◌, Bool, true, false, not, List, filter, length}
use Rattle.std.specs.List.{list_any}
use Rattle.mud_world.specs.History.{world_of}
use Rattle.mud_world.specs.declared.change.Deed.{Deed}
use Rattle.mud_world.specs.declared.change.Deed.TheVariants.{Say, Emote}
use Rattle.mud_chron.specs.Entry.{Entry}
use Rattle.mud_chron.specs.Replay.{changes_of, AreLegal}

-- it is a speech or an emote
abbrev pub is_talk : Deed → Bool
is_talk (Say text) = true
is_talk (Emote text) = true
is_talk deed = false

-- the history without its talk
abbrev pub without_talk : List Entry → List Entry
without_talk entries = filter (λ e. not (is_talk e.change.deed)) entries

-- some entry is talk
abbrev pub has_talk : List Entry → Bool
has_talk entries = list_any (λ e. is_talk e.change.deed) entries

-- both histories are legal and lead to one world: equal records by number, and equal next numbers
pub record LeadsToSame (entries others : List Entry) : Type 0 where
  pub legal : AreLegal (changes_of entries)
  pub others_legal : AreLegal (changes_of others)
  pub world : world_of (changes_of others) ≡ world_of (changes_of entries)

-- the result of shorten: a history of the same world that is no longer, and has no talk
pub record IsShortened (entries shorter : List Entry) : Type 0 where
  pub same : LeadsToSame entries shorter
  pub no_longer : length shorter ≤ length entries
  pub silent : has_talk shorter ≡ false
