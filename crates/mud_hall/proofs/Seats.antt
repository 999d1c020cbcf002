-- The player of a desk remains a player of the world.
use Rattle.std.proofs.Common.{◌≡◌, ◌≤◌, ℕ, List, [], ◌∷◌, ◌++◌, length, take, Option, None, Some}
use Rattle.std.proofs.Common.{refl, ap, sym, subst, ◌∙◌, append_assoc}
use Rattle.std.specs.Prelude.{IfSome, IsTrue}
use Rattle.std.proofs.lemmas.List.{map-append, take-append-le}
use mathlib.Core.List.{IsPrefix}
use Rattle.mud_world.specs.State.{State, is_player}
use Rattle.mud_world.specs.Sound.{IsSound}
use Rattle.mud_world.specs.Legal.{refusal}
use Rattle.mud_world.specs.History.{world_from, world_of}
use Rattle.mud_world.specs.History.{step_or_same}
use Rattle.mud_world.specs.Opening.{opening_state}
use Rattle.mud_world.specs.declared.change.Change.{Change}
use Rattle.mud_world.specs.declared.refusal.Refusal.{Refusal}
use Rattle.mud_world.proofs.Worlds.{step-sound}
use Rattle.mud_world.proofs.Players.{players_stay}
use Rattle.mud_chron.specs.Entry.{Entry}
use Rattle.mud_roads.specs.Passable.{Knowledge, IsFollower}
use Rattle.mud_chron.specs.Replay.{changes_of, world_at}
use Rattle.mud_hall.specs.Notices.{world_after}
use Rattle.mud_row.specs.Known.{Standing}
use Rattle.mud_hall.specs.Desk.{IsHeld}
use Rattle.mud_hall.specs.inner.Desks.{IsSeated}
use Rattle.mud_hall.proofs.Worlds.{world-sound}

step-stays : (w : State) (e : Change) (p : ℕ) (o : Option Refusal) → refusal w e ≡ o → IsSound w
    → IsTrue (is_player w p) → IsTrue (is_player (step_or_same w e) p)
step-stays w e p None is sound player = rw is (players_stay w e sound is p player)
step-stays w e p (Some f) is sound player = rw is player

from-stays : (w : State) (es : List Change) (p : ℕ) → IsSound w → IsTrue (is_player w p)
    → IsTrue (is_player (world_from w es) p)
from-stays w [] p sound player = player
from-stays w (e ∷ es) p sound player = from-stays (step_or_same w e) es p (step-sound w e (refusal w e) refl sound)
    (step-stays w e p (refusal w e) refl sound player)

from-append : (w : State) (cs ds : List Change) → world_from w (cs ++ ds) ≡ world_from (world_from w cs) ds
from-append w [] ds = refl
from-append w (c ∷ cs) ds = from-append (step_or_same w c) cs ds

pub after-append : (h es : List Entry) → world_after (h ++ es) ≡ world_from (world_after h) (changes_of es)
after-append h es = ap world_of (map-append (λ (e : Entry). e.change) h es)
    ∙ from-append opening_state (changes_of h) (changes_of es)

-- a player after a history is one after each extension of it
pub seated-on : (h g : List Entry) (player : Option ℕ) → IsPrefix h g → IsSeated (world_after h) player
    → IsSeated (world_after g) player
seated-on h g None more is = tt
seated-on h g (Some p) more is =
    let P : List Entry → Type 0 = λ l. IsTrue (is_player (world_after l) p) in
    let Q : State → Type 0 = λ w. IsTrue (is_player w p) in
    subst P more.1 (subst Q (sym (after-append h more.0)) (from-stays (world_after h) (changes_of more.0) p
    (world-sound h) is))

pub prefix_trans : {X : Type 0} (xs ys zs : List X) → IsPrefix xs ys → IsPrefix ys zs → IsPrefix xs zs
prefix_trans xs ys zs a b = (a.0 ++ b.0, sym (append_assoc xs a.0 b.0) ∙ (ap (λ w. w ++ b.0) a.1 ∙ b.1))

-- the world of the first entries does not change when more become known
pub at-stays : (was new : Standing) → IsPrefix was.list new.list → new.at ≡ was.at → was.at ≤ length was.list
    → world_at new.list new.at ≡ world_at was.list was.at
at-stays was new more at within =
    ap (λ n. world_at new.list n) at
    ∙ ap world_after (ap (λ l. take was.at l) (sym more.1) ∙ take-append-le was.at was.list more.0 within)

-- and neither does the traveller in it
pub known-on : (t : Option Knowledge) (was new : Standing) → IfSome t (IsFollower (world_at was.list was.at))
    → IsPrefix was.list new.list → new.at ≡ was.at → was.at ≤ length was.list
    → IfSome t (IsFollower (world_at new.list new.at))
known-on t was new known more at within =
    subst (λ (w : State). IfSome t (IsFollower w)) (sym (at-stays was new more at within)) known

-- a desk whose replica comes to know more still belongs to its hall
pub held-on : (cells : List ℕ) (loaded : List Entry) (number : ℕ) (player : Option ℕ) (t : Option Knowledge)
    (was new : Standing) → IsHeld cells loaded number player t was → IsPrefix was.list new.list
    → (new.row ≡ was.row) × (new.at ≡ was.at) → was.at ≤ length was.list → IsHeld cells loaded number player t new
held-on cells loaded number player t was new held more still within = record {
  row = still.0 ∙ held.row;
  begun = prefix_trans loaded was.list new.list held.begun more;
  from = held.from;
  to = held.to;
  seated = seated-on was.list new.list player more held.seated;
  known = known-on t was new held.known more still.1 within;
}
