use Rattle.std.proofs.Common.{subst, List, map, string_bytes, String, Global, MatchOption, ℕ}
use Rattle.mud_shelf.specs.Names.{HasVolume, IsLatest}
use Rattle.mud_shelf.proofs.Starts.{current}
use Rattle.mud_shelf.proofs.shelf.latest.Goals as goal

pub returns-clause-ok : goal.returns-clause-ok
returns-clause-ok g c =
    current (g.S.Shelf.files c.args.shelf.now) c.args.journal.now (map string_bytes c.in_ok-names.names.items)
    c.latest_volume.result c.unwrap_or.result c.in_ok-names.ensures.all c.in_ok-names.ensures.only
    (subst (λ (names : List (String Global)). MatchOption c.latest_volume.result
    ((n : ℕ) → HasVolume c.args.journal.now (map string_bytes names) n → ⊥)
    (IsLatest c.args.journal.now (map string_bytes names))) c.deref.ensures.value c.latest_volume.ensures)
    c.unwrap_or.ensures
