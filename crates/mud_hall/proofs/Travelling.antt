-- A traveller that is known stays known.
use Rattle.std.proofs.Common.{◌≡◌, ℕ, Bool, List, Result, Ok, Err, OnOk, OnErr, sym, subst}
use Rattle.mud_world.specs.KeyIndex.{IsKeyIndex}
use Rattle.mud_world.specs.State.{State}
use Rattle.mud_roads.specs.Passable.{Knowledge, IsTraveller, IsFollower}
use Rattle.mud_roads.proofs.Following.{traveller-follows}

-- one that was made current, or stayed as it was
pub refreshed-follows : {E : Type 0} (w : State) (old new : Knowledge) (r : Result (Unit {0}) E) → IsFollower w old
    → new.keys ≡ old.keys → OnOk r (IsTraveller w new) → OnErr r (new ≡ old) → IsFollower w new
refreshed-follows w old new (Ok x) follows keys ok err =
    traveller-follows w new ok (subst (λ (k : List Bool × List ℕ). IsKeyIndex w k) (sym keys) follows.keys)
refreshed-follows w old new (Err e) follows keys ok err = subst (λ (t : Knowledge). IsFollower w t) (sym err) follows
