-- Two histories of one world.
use Rattle.std.proofs.Common.{◌≡◌, ◌≢◌, Bool, true, false, List, Result, Ok, Err, sym, ◌∙◌}
use Rattle.std.specs.Prelude.{IfOk, MatchBool}
use Rattle.mud_world.specs.State.{State}
use Rattle.mud_world.specs.History.{world_of}
use Rattle.mud_chron.specs.Entry.{Entry}
use Rattle.mud_chron.specs.Replay.{changes_of, AreLegal}
use Rattle.mud_compact.specs.Shorter.{LeadsToSame}

pub leads_so : {E : Type 0} (r : Result Bool E) (old new : State) (es fs : List Entry) → AreLegal (changes_of es)
    → old ≡ world_of (changes_of es) → AreLegal (changes_of fs) → new ≡ world_of (changes_of fs)
    → IfOk r (λ b. MatchBool b (old ≡ new) (old ≢ new)) → IfOk r (λ b. b ≡ true → LeadsToSame es fs)
leads_so (Ok true) old new es fs one is other so same =
    λ when. record { legal = one; others_legal = other; world = sym so ∙ sym same ∙ is }
leads_so (Ok false) old new es fs one is other so same = λ when. absurd (cc)
leads_so (Err e) old new es fs one is other so same = tt
