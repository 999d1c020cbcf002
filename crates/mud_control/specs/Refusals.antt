-- The words of refused connections.
use Rattle.std.specs.Prelude.{ℕ, List, codes}
use Rattle.mud_control.specs.declared.tally.Refusal.{Refusal}
use Rattle.mud_control.specs.declared.tally.Refusal.TheVariants.{Full, Address, Banned, Often, Request}

-- the word of a refusal in the log
abbrev pub refusal_word : Refusal → List ℕ
refusal_word Full = codes "full"
refusal_word Address = codes "address"
refusal_word Banned = codes "banned"
refusal_word Often = codes "often"
refusal_word Request = codes "request"
