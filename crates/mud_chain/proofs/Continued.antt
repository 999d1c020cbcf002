-- The answer for two histories, from a search for the first version with a given world.
use Rattle.std.proofs.Common.{◌≡◌, ℕ, ◌+◌, List, length, Option, Some, None, sym, ◌∙◌, arith}
use Rattle.mud_world.specs.State.{State}
use Rattle.mud_world.specs.History.{world_of}
use Rattle.mud_chron.specs.Entry.{Entry}
use Rattle.mud_chron.specs.Replay.{changes_of, world_at, AreLegal}
use Rattle.mud_chain.specs.inner.Searched.{IsSearched}
use Rattle.mud_chain.specs.Chain.{IsContinuation}
use Rattle.mud_chron.proofs.Grown.{legal_prefix}

pub continued : (old new : List Entry) (end : State) (found : Option ℕ) → AreLegal (changes_of old)
    → AreLegal (changes_of new) → end ≡ world_of (changes_of old)
    → IsSearched (world_at new) end (length old) (length new + 1) found → IsContinuation old new found
continued old new end None legal new_legal is searched = λ n within no_longer same.
    searched n (omega (arith, within)) no_longer (same ∙ sym is)
continued old new end (Some version) legal new_legal is searched = record {
  within = (let less = searched.below in omega (arith, less));
  no_longer = searched.up_to;
  same = record { legal = legal; others_legal = legal_prefix new version new_legal; world = searched.same ∙ is };
  least = λ n less same. searched.least n less (same ∙ sym is);
}
