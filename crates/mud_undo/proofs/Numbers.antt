-- The numbers that objects get in a legal history.
use Rattle.std.proofs.Common.{◌≡◌, ℕ, ◌+◌, ◌≤◌, ◌<◌, List, [], ◌∷◌, ◌++◌, length, take, get_or, Option, Some}
use Rattle.std.proofs.Common.{None, refl, sym, ◌∙◌, ap, arith}
use Rattle.std.specs.Prelude.{nat_eq, unwrap_or}
use Rattle.std.specs.Map.{set_value}
use Rattle.std.specs.Option.{option_map_or}
use Rattle.std.proofs.lemmas.List.{take_more}
use Rattle.mud_world.specs.State.{State, record_at, place_of, destination_of}
use Rattle.mud_world.specs.Opening.{opening_state}
use Rattle.mud_world.specs.Legal.{after}
use Rattle.mud_world.specs.Kinds.{kind_at, kind_costing}
use Rattle.mud_world.specs.Results.{with_record_changed, deed_result, new_exit}
use Rattle.mud_world.specs.History.{world_from}
use Rattle.mud_world.specs.declared.limits.TheConstants.{NUMBERS}
use Rattle.mud_world.specs.declared.record.Record.{Record}
use Rattle.mud_world.specs.declared.change.Target.TheVariants.{New, Old}
use Rattle.mud_world.specs.declared.change.Deed.{Deed}
use Rattle.mud_world.specs.declared.change.Deed.TheVariants.{Dig, Make, Lock, Unlock, Move, Walk, Cost, Player, Rename}
use Rattle.mud_world.specs.declared.change.Deed.TheVariants.{Recycle, Say, Emote}
use Rattle.mud_world.proofs.Worlds.{stepped-legal, worlds_law}
use Rattle.mud_chron.specs.Entry.{Entry}
use Rattle.mud_chron.specs.Replay.{changes_of, AreLegalFrom, AreLegal}
use Rattle.mud_chron.proofs.Grown.{legal_prefix}
use Rattle.mud_undo.specs.Without.{count_made}

-- ---- one change
-- a record that is changed leaves the next number
changed-next : (w : State) (n : ℕ) (f : Record → Record) → (with_record_changed w n f).next ≡ w.next
changed-next w n f = go (record_at w n)
  where
    go : (o : Option Record)
        → (option_map_or (λ r. record w { objects = set_value (nat_eq n) w.objects (f r) }) o w).next ≡ w.next
    go None = refl
    go (Some r) = refl

-- so does a walk
walked-next : (w : State) (actor : ℕ) (o : Option ℕ)
    → (option_map_or (λ room. with_record_changed w actor (λ r. record r { kind = kind_at room r.kind })) o w).next
    ≡ w.next
walked-next w actor None = refl
walked-next w actor (Some room) = changed-next w actor (λ r. record r { kind = kind_at room r.kind })

-- an exit back is one more
count-back : (actor here there : ℕ) (b : Option (List (List ℕ)))
    → length (option_map_or (λ names. new_exit actor names there here ∷ []) b []) + 1
    ≡ option_map_or (λ (names : List (List ℕ)). 2) b 1
count-back actor here there None = omega arith
count-back actor here there (Some names) = omega arith

-- the next number after a deed
deed-next : (w : State) (actor : ℕ) (deed : Deed) → (deed_result w actor deed).next ≡ w.next + count_made deed
deed-next w actor (Dig (New names) None) = omega arith
deed-next w actor (Dig (New names) (Some d)) =
    let back = count-back actor (unwrap_or (place_of w actor) 0) w.next d.back in omega (arith, back)
deed-next w actor (Dig (Old room) None) = omega arith
deed-next w actor (Dig (Old room) (Some d)) =
    let back = count-back actor (unwrap_or (place_of w actor) 0) room d.back in omega (arith, back)
deed-next w actor (Make names) = omega arith
deed-next w actor (Player name) = omega arith
deed-next w actor (Lock object key) =
    let same = changed-next w object (λ r. record r { key = Some key }) in omega (arith, same)
deed-next w actor (Unlock object) =
    let same = changed-next w object (λ r. record r { key = None }) in omega (arith, same)
deed-next w actor (Move thing to) =
    let same = changed-next w thing (λ r. record r { kind = kind_at to r.kind }) in omega (arith, same)
deed-next w actor (Walk exit) = let same = walked-next w actor (destination_of w exit) in omega (arith, same)
deed-next w actor (Cost exit cost) =
    let same = changed-next w exit (λ r. record r { kind = kind_costing cost r.kind }) in omega (arith, same)
deed-next w actor (Rename object names) =
    let same = changed-next w object (λ r. record r { names = names }) in omega (arith, same)
deed-next w actor (Recycle object) = omega arith
deed-next w actor (Say text) = omega arith
deed-next w actor (Emote text) = omega arith

-- ---- a history
-- the number that comes after those of the entries
abbrev pub number_after : ℕ → List Entry → ℕ
number_after n [] = n
number_after n (e ∷ es) = number_after (n + count_made e.change.deed) es

pub number_after-push : (n : ℕ) (es : List Entry) (e : Entry)
    → number_after n (es ++ e ∷ []) ≡ number_after n es + count_made e.change.deed
number_after-push n [] e = refl
number_after-push n (d ∷ es) e = number_after-push (n + count_made d.change.deed) es e

-- in a legal history it is the next number of the world
follows : (w : State) (es : List Entry) → AreLegalFrom w (changes_of es)
    → number_after w.next es ≡ (world_from w (changes_of es)).next
follows w [] legal = refl
follows w (e ∷ es) legal =
    ap (λ n. number_after n es) (sym (deed-next w e.change.actor e.change.deed))
    ∙ follows (after w e.change) es legal.1
    ∙ ap (λ v. (world_from v (changes_of es)).next) (sym (stepped-legal w e.change legal.0))

-- so it is within the limit
pub number-bounded : (es : List Entry) → AreLegal (changes_of es) → number_after opening_state.next es ≤ NUMBERS
number-bounded es legal =
    let limit = (worlds_law (changes_of es)).limit in
    let same = follows opening_state es legal in
    omega (arith, limit, same)

-- one entry more
pub number-more : (n : ℕ) (es : List Entry) (i : ℕ) (d : Entry) → i < length es
    → number_after n (take (i + 1) es) ≡ number_after n (take i es) + count_made (get_or es i d).change.deed
number-more n es i d less =
    ap (number_after n) (take_more es i d less) ∙ number_after-push n (take i es) (get_or es i d)

-- there is room for what it makes
pub number-room : (es : List Entry) (i : ℕ) (d : Entry) → AreLegal (changes_of es) → i < length es
    → number_after opening_state.next (take i es) + count_made (get_or es i d).change.deed ≤ NUMBERS
number-room es i d legal less =
    let more = number-more opening_state.next es i d less in
    let bound = number-bounded (take (i + 1) es) (legal_prefix es (i + 1) legal) in
    omega (arith, more, bound)
