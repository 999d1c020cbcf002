-- The world of a replica that applied one more entry, and a desk with it.
use Rattle.std.proofs.Common.{◌≡◌, ℕ, ◌+◌, List, [], ◌∷◌, take, Option, Some, None}
use Rattle.std.proofs.Common.{slice_get, sym, ap, ◌∙◌, subst, add-one}
use Rattle.std.specs.Prelude.{IfSome, is_none, if◌then◌else◌}
use mathlib.Core.List.{IsPrefix}
use Rattle.mud_world.specs.State.{State}
use Rattle.mud_world.specs.Legal.{refusal, after}
use Rattle.mud_world.specs.History.{step_or_same}
use Rattle.mud_world.specs.declared.change.Change.{Change}
use Rattle.mud_roads.specs.Passable.{Knowledge, IsFollower}
use Rattle.mud_chron.specs.Entry.{Entry}
use Rattle.mud_chron.specs.Replay.{world_at}
use Rattle.mud_row.specs.Known.{Standing}
use Rattle.mud_hall.specs.Notices.{world_after}
use Rattle.mud_hall.specs.Desk.{IsHeld}
use Rattle.mud_hall.specs.inner.Desks.{IsSeated}
use Rattle.mud_hall.proofs.Notices.{take_at}
use Rattle.mud_hall.proofs.Seats.{after-append}

-- the replica applied this entry, its next one
pub record Applies (was new : Standing) (e : Entry) : Type 0 where
  pub row : new.row ≡ was.row
  pub list : new.list ≡ was.list
  pub at : new.at ≡ was.at + 1
  pub entry : slice_get was.list was.at ≡ Some e

-- its world is the one after the change
pub next-world : (was new : Standing) (e : Entry) → Applies was new e
    → world_at new.list new.at ≡ step_or_same (world_at was.list was.at) e.change
next-world was new e is =
    ap (λ es. world_at es new.at) is.list ∙ ap (world_at was.list) (is.at ∙ add-one was.at)
    ∙ ap world_after (take_at was.list was.at e is.entry) ∙ after-append (take was.at was.list) (e ∷ [])

-- a desk whose replica applied an entry belongs to its hall, with a traveller of the world after it
pub held-next : (cells : List ℕ) (loaded : List Entry) (number : ℕ) (player : Option ℕ) (t u : Option Knowledge)
    (was new : Standing) (e : Entry) → IsHeld cells loaded number player t was → Applies was new e
    → IfSome u (IsFollower (world_at new.list new.at)) → IsHeld cells loaded number player u new
held-next cells loaded number player t u was new e held is known = record {
  row = is.row ∙ held.row;
  begun = subst (IsPrefix loaded) (sym is.list) held.begun;
  from = held.from;
  to = held.to;
  seated = subst (λ (es : List Entry). IsSeated (world_after es) player) (sym is.list) held.seated;
  known = known;
}
