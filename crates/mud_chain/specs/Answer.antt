-- The answer for two texts.
use Rattle.std.specs.Prelude.{ℕ, List, Option}
use Rattle.mud_chron.specs.Entry.{Entry}
use Rattle.mud_chron.specs.Replay.{changes_of, AreLegal}
use Rattle.mud_compact.specs.declared.reading.TextKind.{TextKind}
use Rattle.mud_compact.specs.Recovery.{KeepsEntries}
use Rattle.mud_compact.specs.Answer.{KeepsNoWorld}
use Rattle.mud_chain.specs.declared.chain.NoChain.{NoChain}
use Rattle.mud_chain.specs.declared.chain.NoChain.TheVariants.{Old, New}
use Rattle.mud_chain.specs.Chain.{IsContinuation}

-- the version at which the entries of the new bytes continue those of the old ones, if they do; all changes are legal
pub record IsChain (kind : TextKind) (old new : List ℕ) (version : Option ℕ) (torn : Option ℕ × Option ℕ) : Type 0 where
  pub before : List Entry
  pub after : List Entry
  pub old_kept : KeepsEntries kind old before torn.0
  pub new_kept : KeepsEntries kind new after torn.1
  pub old_legal : AreLegal (changes_of before)
  pub new_legal : AreLegal (changes_of after)
  pub is : IsContinuation before after version

-- the reason why one of the two has no world
abbrev pub HasNoChain : TextKind → List ℕ → List ℕ → NoChain → Type 0
HasNoChain kind old new (Old fault) = KeepsNoWorld kind old fault
HasNoChain kind old new (New fault) = KeepsNoWorld kind new fault
