-- Refusals that stop a player before a text is read.
use Rattle.std.specs.Prelude.{ℕ, Bool, false, not, ◌||◌, nat_eq, List, [], ◌∷◌}
use Rattle.std.specs.Prelude.{Option, Some, None, if◌then◌else◌}
use Rattle.std.specs.Option.{option_map_or}
use Rattle.mud_world.specs.declared.change.Target.{Target}
use Rattle.mud_world.specs.declared.change.Target.TheVariants.{New, Old}
use Rattle.mud_world.specs.declared.refusal.Refusal.{Refusal}
use Rattle.mud_world.specs.declared.refusal.Refusal.TheVariants as refusal
use Rattle.mud_world.specs.Refusals.{number, refused_if}
use Rattle.mud_world.specs.State.{State, exists, is_room, is_player}
use Rattle.mud_world.specs.Conditions.{owns}
use Rattle.mud_rules.specs.Party.{is_party}

-- all refusals, in rising order
abbrev pub all_refusals : List Refusal
all_refusals =
    refusal.NotUnderstood ∷ refusal.NoSuch ∷ refusal.Ambiguous ∷ refusal.WrongKind ∷ refusal.NotHere ∷ refusal.Denied
    ∷ refusal.BadName ∷ refusal.NameTaken ∷ refusal.BadKey ∷ refusal.KeyNesting ∷ refusal.BadCost
    ∷ refusal.RecursiveMove ∷ refusal.LockedExit ∷ refusal.LockedRoom ∷ refusal.LockedThing ∷ refusal.InUse
    ∷ refusal.WorldFull ∷ refusal.PartyBad ∷ []

-- the refusal is f
abbrev pub refuses : Option Refusal → Refusal → Bool
refuses own f = option_map_or (λ g. nat_eq (number g) (number f)) own false

-- ---- refusals that stop a player before a text is read

-- p is not a player of the world
abbrev pub no_player : State → ℕ → Option Refusal
no_player w p =
    if not (exists w p) then Some refusal.NoSuch
    else if not (is_player w p) then Some refusal.WrongKind
    else None

-- p is not a player, or the existing target is not a room
abbrev pub no_room : State → ℕ → Target → Option Refusal
no_room w p (New names) = no_player w p
no_room w p (Old room) =
    if not (exists w p) || not (exists w room) then Some refusal.NoSuch
    else if not (is_player w p) || not (is_room w room) then Some refusal.WrongKind
    else None

-- p is not a player, object x does not exist, has the wrong kind, or is another's
abbrev pub not_his : State → ℕ → ℕ → Bool → Option Refusal
not_his w p x wrong_kind =
    if not (exists w p) || not (exists w x) then Some refusal.NoSuch
    else if not (is_player w p) || wrong_kind then Some refusal.WrongKind
    else if not (owns w p x) then Some refusal.Denied
    else None

-- ---- meetings

-- the refusal of a list that is not a party
abbrev pub unfit : List ℕ → Option Refusal
unfit party = refused_if (not (is_party party)) refusal.PartyBad
