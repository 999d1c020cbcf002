-- The effect of a line that acts.
use Rattle.std.proofs.Common.{◌≡◌, ◌≤◌, ℕ, Bool, true, false, List, [], ◌∷◌, ◌++◌, length, take}
use Rattle.std.proofs.Common.{Option, Some, None, refl, sym, ap, ◌∙◌, subst, append_assoc}
use Rattle.std.specs.Prelude.{IsTrue, if◌then◌else◌}
use Rattle.std.proofs.Math.Seq.{take-length}
use Rattle.mud_world.specs.State.{State, is_player}
use Rattle.mud_world.specs.Sound.{IsSound}
use Rattle.mud_world.specs.Legal.{refusal, after, is_arrival}
use Rattle.mud_world.specs.History.{world_of}
use Rattle.mud_world.specs.declared.change.Change.{Change}
use Rattle.mud_world.specs.declared.change.Deed.{Deed}
use Rattle.mud_world.specs.declared.change.Deed.TheVariants.{Dig, Make, Lock, Unlock, Move, Walk}
use Rattle.mud_world.specs.declared.change.Deed.TheVariants.{Cost, Player, Rename, Recycle, Say, Emote}
use Rattle.mud_world.proofs.Histories.{world_of-legal}
use Rattle.mud_world.proofs.Players.{players_stay, new_players_are_players}
use Rattle.mud_rules.specs.inner.Outcome.{IsActor}
use Rattle.mud_roads.specs.Passable.{Knowledge}
use Rattle.mud_chron.specs.Entry.{Entry}
use Rattle.mud_chron.specs.Replay.{changes_of}
use Rattle.std.proofs.lemmas.List.{map_push}
use Rattle.mud_chron.specs.Replay.{world_at}
use Rattle.mud_row.specs.Known.{Standing}
use Rattle.mud_hall.specs.Notices.{world_after}
use Rattle.mud_hall.specs.inner.Desks.{IsSeated}
use Rattle.mud_hall.specs.Desk.{IsHeld}
use Rattle.mud_hall.proofs.Seats.{known-on}
use Rattle.mud_hall.proofs.Worlds.{world-sound}

-- a replica that has applied all entries has the world of all
pub all_in : (list : List Entry) (at : ℕ) → at ≡ length list → world_at list at ≡ world_after list
all_in list at is = ap (λ n. world_after (take n list)) is ∙ ap world_after (take-length list)

-- ---- the player of the desk afterwards

-- the actor of a change is the desk's player after it
pub actor-seated : (w : State) (player : Option ℕ) (e : Change) → IsActor w player e
    → Some e.actor ≡ (if is_arrival e.deed then Some e.actor else player)
actor-seated w player e is = go (is_arrival e.deed) refl
  where
    go : (b : Bool) → is_arrival e.deed ≡ b → Some e.actor ≡ (if is_arrival e.deed then Some e.actor else player)
    go true b = sym (ap (λ (x : Bool). if x then Some e.actor else player) b)
    go false b = sym (is.old b) ∙ sym (ap (λ (x : Bool). if x then Some e.actor else player) b)

-- and is a player of the world after it
pub actor-plays : (w : State) (h : List Entry) (player : Option ℕ) (e : Change) → w ≡ world_after h
    → refusal w e ≡ None → IsActor w player e → IsSeated (world_after h) player → IsTrue (is_player (after w e) e.actor)
actor-plays w h player e at legal is seated = go e.deed legal is.old is.new
  where
    Was : Deed → Type 0
    Was deed = refusal w (record { actor = e.actor; deed = deed }) ≡ None

    Is : Deed → Type 0
    Is deed = IsTrue (is_player (after w (record { actor = e.actor; deed = deed })) e.actor)

    here : (deed : Deed) → Was deed → (is_arrival deed ≡ false → player ≡ Some e.actor) → is_arrival deed ≡ false
        → Is deed
    here deed l old apart =
        let P : Option ℕ → Type 0 = λ o. IsSeated (world_after h) o in
        let Q : State → Type 0 = λ v. IsTrue (is_player v e.actor) in
        players_stay w (record { actor = e.actor; deed = deed })
        (subst (λ (v : State). IsSound v) (sym at) (world-sound h)) l e.actor
        (subst Q (sym at) (subst P (old apart) seated))

    go : (deed : Deed) → Was deed → (is_arrival deed ≡ false → player ≡ Some e.actor)
        → (is_arrival deed ≡ true → e.actor ≡ w.next) → Is deed
    go (Player name) l old new =
        let P : ℕ → Type 0 = λ a. IsTrue (is_player (after w (record { actor = a; deed = Player name })) a) in
        subst P (sym (new refl)) (new_players_are_players w name
        (subst (λ (v : State). IsSound v) (sym at) (world-sound h)))
    go (Dig target doors) l old new = here (Dig target doors) l old refl
    go (Make names) l old new = here (Make names) l old refl
    go (Lock object key) l old new = here (Lock object key) l old refl
    go (Unlock object) l old new = here (Unlock object) l old refl
    go (Move thing to) l old new = here (Move thing to) l old refl
    go (Walk exit) l old new = here (Walk exit) l old refl
    go (Cost exit cost) l old new = here (Cost exit cost) l old refl
    go (Rename object names) l old new = here (Rename object names) l old refl
    go (Recycle object) l old new = here (Recycle object) l old refl
    go (Say text) l old new = here (Say text) l old refl
    go (Emote text) l old new = here (Emote text) l old refl

-- the desk belongs to its hall after its change
pub held-stored : (cells : List ℕ) (loaded : List Entry) (number : ℕ) (player : Option ℕ) (t : Option Knowledge)
    (was new : Standing) (e : Change) → IsHeld cells loaded number player t was
    → new.list ≡ was.list ++ record { desk = number; change = e } ∷ []
    → (new.row ≡ was.row) × (new.at ≡ was.at) → was.at ≤ length was.list
    → refusal (world_after was.list) e ≡ None → IsActor (world_after was.list) player e
    → IsHeld cells loaded number (Some e.actor) t new
held-stored cells loaded number player t was new e held list still within legal is =
    let entry : Entry = record { desk = number; change = e } in
    let world : world_after new.list ≡ after (world_after was.list) e =
    ap world_after list ∙ (ap world_of (map_push (λ (x : Entry). x.change) was.list entry)
    ∙ world_of-legal (changes_of was.list) e legal) in
    let Q : State → Type 0 = λ v. IsTrue (is_player v e.actor) in
    record {
      row = still.0 ∙ held.row;
      begun = (
        held.begun.0 ++ entry ∷ [],
        sym (append_assoc loaded held.begun.0 (entry ∷ []))
            ∙ (ap (λ l. l ++ entry ∷ []) held.begun.1 ∙ sym list),
      );
      from = held.from;
      to = held.to;
      seated = subst Q (sym world) (actor-plays (world_after was.list) was.list player e refl legal is held.seated);
      known = known-on t was new held.known (entry ∷ [], sym list) still.1 within;
    }
