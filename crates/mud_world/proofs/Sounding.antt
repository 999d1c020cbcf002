-- A legal change of a sound world leaves a sound world, by kind of change.
use Rattle.std.proofs.Common.{◌≡◌, ℕ, ◌+◌, ◌≤◌, true, false, cond, List, [], ◌∷◌, length, Option, Some, None, sym, ◌∙◌}
use Rattle.std.proofs.Common.{ap, subst, arith, ⊎_elim, append-nil}
use Rattle.std.specs.Prelude.{nat_eq, unwrap_or}
use Rattle.std.specs.Option.{option_map_or, option_and_then}
use Rattle.std.specs.Map.{lookup}
use Rattle.std.proofs.lemmas.Bool.{or_parts, not-false, cases_eq, true≢false}
use Rattle.mud_world.specs.declared.limits.TheConstants.{NUMBERS}
use Rattle.mud_world.specs.declared.record.Record.{Record}
use Rattle.mud_world.specs.declared.record.Kind.{Kind}
use Rattle.mud_world.specs.declared.record.Kind.TheVariants.{Room, Exit, Thing, Player as PlayerIn}
use Rattle.mud_world.specs.declared.change.Deed.{Deed}
use Rattle.mud_world.specs.declared.change.Deed.TheVariants.{Dig, Make, Lock, Unlock, Move, Walk, Cost, Player, Rename}
use Rattle.mud_world.specs.declared.change.Deed.TheVariants.{Recycle, Say, Emote}
use Rattle.mud_world.specs.declared.change.Doors.{Doors}
use Rattle.mud_world.specs.declared.change.Target.TheVariants.{New, Old}
use Rattle.mud_world.specs.Kinds.{kind_place, is_player_kind}
use Rattle.mud_world.specs.State.{State, record_at, is_player, place_of, destination_of}
use Rattle.mud_world.specs.Sound.{IsSound}
use Rattle.std.specs.List.{enumerate_from}
use Rattle.mud_world.specs.Legal.{with_new, new_record, new_exit, new_exits, refusal, deed_result}
use Rattle.mud_world.specs.inner.Fields.{with_place}
use Rattle.mud_world.specs.inner.CanGo.{CanGo, CanAdd, CanJoin, IsNew}
use Rattle.mud_world.specs.Laws.{StaysSound}
use Rattle.mud_world.proofs.Records.{record_cases, bool_cases}
use Rattle.mud_world.proofs.Places.{option_cases}
use Rattle.mud_world.proofs.Moving.{sound-moved}
use Rattle.mud_world.proofs.Going.{nothing_fails, moved_by, moved-same, CanGo-walk, CanGo-move, has_place}
use Rattle.mud_world.proofs.Naming.{named-added}
use Rattle.mud_world.proofs.Adding.{sound-new}
use Rattle.mud_world.proofs.Grown.{next_missing, CanAdd-make}
use Rattle.mud_world.proofs.Removing.{sound-removed}
use Rattle.mud_world.proofs.Keying.{sound-keyed, CanKey-lock, CanKey-unlock}
use Rattle.mud_world.proofs.Recycling.{CanRemove-recycle, sound-cost, sound-renamed, CanName-rename, CanAdd-player}
use Rattle.mud_world.proofs.Digging.{CanAdd-exit, CanAdd-room, CanJoin-grown, CanJoin-flip, CanJoin-dig_old}
use Rattle.mud_world.proofs.Digging.{CanJoin-dig_new, enough, with_new-more}

-- ---- new objects
sound-added : (w : State) → IsSound w → (r : Record) → CanAdd w r → IsSound (with_new w (r ∷ []))
sound-added w sound r can =
    let below = can.room in
    sound-new w sound (r ∷ []) (omega (arith, below)) only_new
    (named-added w r sound.named (next_missing w sound) can.free)
  where
    only_new : (n : ℕ) (s : Record) → lookup (nat_eq n) (enumerate_from w.next (r ∷ [])) ≡ Some s
        → IsNew w (with_new w (r ∷ [])) s
    only_new n s at =
        bool_cases (nat_eq n w.next)
        (λ e.
        let found : Some r ≡ Some s = sym (ap (λ b. cond b (Some r) None) e) ∙ at in
        let same : r ≡ s = cc in
        subst (λ (v : Record). IsNew w (with_new w (r ∷ [])) v) same can.new)
        (λ e. let bad : None ≡ Some s = sym (ap (λ b. cond b (Some r) None) e) ∙ at in absurd (cc))

with_new-none : (w : State) → with_new w [] ≡ w
with_new-none w = λ i. record { objects = (append-nil w.objects) i; next = (same) i }
  where
    same : w.next + 0 ≡ w.next
    same = omega arith

-- an exit, and one back if it has names
sound-both : (w : State) → IsSound w → (a here there : ℕ) (out : List (List ℕ)) → CanJoin w here there
    → (names : Option (List (List ℕ))) →
    w.next + length (new_exit a out here there ∷ option_map_or (λ names. new_exit a names there here ∷ []) names [])
    ≤ NUMBERS →
    IsSound (with_new w
    (new_exit a out here there ∷ option_map_or (λ names. new_exit a names there here ∷ []) names []))
sound-both w sound a here there out join None few =
    sound-added w sound (new_exit a out here there) (CanAdd-exit w a out here there join (omega (arith, few)))
sound-both w sound a here there out join (Some names) few =
    let exit = new_exit a out here there in
    let grown = with_new w (exit ∷ []) in
    let first = sound-added w sound exit (CanAdd-exit w a out here there join (omega (arith, few))) in
    subst IsSound (with_new-more w exit (new_exit a names there here ∷ []))
    (sound-added grown first (new_exit a names there here)
    (CanAdd-exit grown a names there here (CanJoin-grown w (exit ∷ []) there here (CanJoin-flip w here there join))
    (omega (arith, few))))

sound-doors : (w : State) → IsSound w → (a here there : ℕ) (doors : Option Doors) → CanJoin w here there
    → w.next + length (new_exits a here there doors) ≤ NUMBERS → IsSound (with_new w (new_exits a here there doors))
sound-doors w sound a here there None join room = subst IsSound (sym (with_new-none w)) sound
sound-doors w sound a here there (Some d) join room = sound-both w sound a here there d.out join d.back room

-- ---- another place
sound-gone : (w : State) → IsSound w → (t q y : ℕ) → CanGo w t q y → IsSound (with_place w t y)
sound-gone w sound t q y can =
    record_cases (record_at w t)
    (λ e. let bad : None ≡ Some q = sym (ap (option_and_then (λ r. kind_place r.kind)) e) ∙ can.from in absurd (cc))
    (λ r e.
    let from = sym (ap (option_and_then (λ r. kind_place r.kind)) e) ∙ can.from in
    subst IsSound (sym (moved_by w t y r e)) (sound-moved w sound t y r e q from (can.fit r e) can.off))

player-placed : (w : State) (a : ℕ) → is_player w a ≡ true → place_of w a ≡ None → ⊥
player-placed w a player none =
    record_cases (record_at w a)
    (λ e. true≢false (sym player ∙ ap (λ v. option_map_or (λ r. is_player_kind r.kind) v false) e))
    (λ r e. placed r.kind (sym (ap (λ v. option_map_or (λ r. is_player_kind r.kind) v false) e) ∙ player)
    (sym (ap (option_and_then (λ r. kind_place r.kind)) e) ∙ none))
  where
    placed : (k : Kind) → is_player_kind k ≡ true → kind_place k ≡ None → ⊥
    placed Room e f = true≢false (sym e)
    placed (Exit p) e f = true≢false (sym e)
    placed (Thing p) e f = true≢false (sym e)
    placed (PlayerIn p) e f = let bad : Some p ≡ None = f in cc

sound-walk : (w : State) → IsSound w → (a x : ℕ) → refusal w (record { actor = a; deed = Walk x }) ≡ None
    → IsSound (option_map_or (with_place w a) (destination_of w x) w)
sound-walk w sound a x legal =
    let player = not-false _ (or_parts _ _ (nothing_fails w (record { actor = a; deed = Walk x }) legal).1.0).0 in
    option_cases (destination_of w x)
    (λ e. subst IsSound (sym (ap (λ v. option_map_or (with_place w a) v w) e)) sound)
    (λ d e.
    subst IsSound (sym (ap (λ v. option_map_or (with_place w a) v w) e))
    (option_cases (place_of w a)
    (λ none. absurd (player-placed w a player none))
    (λ q from.
    ⊎_elim
    (λ (same : q ≡ d). subst IsSound (sym (ap (with_place w a) (sym same) ∙ moved-same w a q from)) sound)
    (λ apart. sound-gone w sound a q d (CanGo-walk w sound a x legal q d from e apart))
    (cases_eq q d))))

-- ---- kind by kind
sound-after : (w : State) → IsSound w → (a : ℕ) (d : Deed) → refusal w (record { actor = a; deed = d }) ≡ None
    → IsSound (deed_result w a d)
sound-after w sound a (Dig (New names) doors) legal =
    let room = new_record a names Room in
    let few = enough w sound a (New names) doors legal in
    let here = unwrap_or (place_of w a) 0 in
    subst IsSound (with_new-more w room (new_exits a here w.next doors))
    (sound-doors (with_new w (room ∷ []))
    (sound-added w sound room (CanAdd-room w a names (omega (arith, few)))) a here w.next doors
    (CanJoin-dig_new w sound a names doors legal) (omega (arith, few)))
sound-after w sound a (Dig (Old room) doors) legal =
    sound-doors w sound a (unwrap_or (place_of w a) 0) room doors (CanJoin-dig_old w sound a room doors legal)
    (enough w sound a (Old room) doors legal)
sound-after w sound a (Make names) legal =
    sound-added w sound (new_record a names (Thing a)) (CanAdd-make w a names legal)
sound-after w sound a (Lock n key) legal = sound-keyed w sound n (Some key) (CanKey-lock w sound a n key legal)
sound-after w sound a (Unlock n) legal = sound-keyed w sound n None (CanKey-unlock w sound a n legal)
sound-after w sound a (Move t y) legal =
    option_cases (place_of w t)
    (λ none. absurd (has_place w sound a t y legal none))
    (λ q from. sound-gone w sound t q y (CanGo-move w sound a t y legal q from))
sound-after w sound a (Walk x) legal = sound-walk w sound a x legal
sound-after w sound a (Cost n cost) legal = sound-cost w sound a n cost legal
sound-after w sound a (Player name) legal =
    sound-added w sound (new_record a (name ∷ []) (PlayerIn 0)) (CanAdd-player w sound a name legal)
sound-after w sound a (Rename n names) legal = sound-renamed w sound n names (CanName-rename w a n names legal)
sound-after w sound a (Recycle n) legal = sound-removed w sound n (CanRemove-recycle w a n legal)
sound-after w sound a (Say text) legal = sound
sound-after w sound a (Emote text) legal = sound

pub soundness_law : StaysSound
soundness_law = λ w e sound legal. sound-after w sound e.actor e.deed legal
