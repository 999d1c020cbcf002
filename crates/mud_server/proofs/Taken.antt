-- A hall takes entries that are legal and few enough.
use Rattle.std.proofs.Common.{List, ℕ, sym, subst}
use Rattle.std.proofs.lemmas.List.{take-map}
use Rattle.mud_chron.specs.Entry.{Entry}
use Rattle.mud_chron.specs.Replay.{changes_of, AreLegal, IsFirstIllegal}
use Rattle.mud_chron.proofs.Grown.{legal_prefix}

-- no entry of a legal history is the first illegal one
pub none_illegal : (entries : List Entry) (n : ℕ) → AreLegal (changes_of entries)
    → IsFirstIllegal (changes_of entries) n → ⊥
none_illegal entries n legal fails =
    fails.3 (subst AreLegal (sym (take-map (λ e. e.change) n entries)) (legal_prefix entries n legal))
