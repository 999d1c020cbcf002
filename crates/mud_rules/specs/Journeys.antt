-- Routes and meetings that a player may ask for. Each gives a journey or its least refusal.
use Rattle.std.specs.Prelude.{ℕ, not, List, [], ◌∷◌, map, filter_map, Option, None, Some, Result, Ok, Err}
use Rattle.std.specs.Option.{option_map_or}
use Rattle.std.specs.Result.{result_ok, result_map_both}
use Rattle.mud_key.specs.Commas.{parts_of}
use Rattle.mud_world.specs.declared.refusal.Refusal.{Refusal}
use Rattle.mud_world.specs.declared.refusal.Refusal.TheVariants.{NoSuch, PartyBad}
use Rattle.mud_world.specs.Refusals.{refused_if, lesser}
use Rattle.mud_world.specs.State.{State, is_room, is_player}
use Rattle.mud_rules.specs.declared.verdict.Journey.{Journey}
use Rattle.mud_rules.specs.declared.verdict.Journey.TheVariants.{Route, Meet}
use Rattle.mud_rules.specs.Matches.{match_among}
use Rattle.mud_rules.specs.Outcome.{object_meant, of_kind}
use Rattle.mud_rules.specs.Party.{is_party}

-- route to R
abbrev pub route : State → ℕ → List ℕ → Result Journey Refusal
route w p text =
    result_map_both Route (λ f. f) (of_kind (is_room w) (object_meant NoSuch (match_among (is_room w) w p text)))

-- the player that a text means
abbrev pub player_meant : State → ℕ → List ℕ → Result ℕ Refusal
player_meant w p text = of_kind (is_player w) (object_meant NoSuch (match_among (is_player w) w p text))

-- the least refusal of the parts, if any has one
abbrev pub least_refusal : List (Result ℕ Refusal) → Option Refusal
least_refusal [] = None
least_refusal (Ok n ∷ parts) = least_refusal parts
least_refusal (Err f ∷ parts) = lesser (Some f) (least_refusal parts)

-- the players that were found
abbrev pub members : List (Result ℕ Refusal) → List ℕ
members parts = filter_map result_ok parts

-- the meeting of the players that were found, or the least refusal: that of a part, or PartyBad if they are not a party
unfoldable pub meeting : List (Result ℕ Refusal) → Result Journey Refusal
meeting parts =
    let party = members parts in
    option_map_or Err (lesser (refused_if (not (is_party party)) PartyBad) (least_refusal parts)) (Ok (Meet party))

-- meet P, P and so on
abbrev pub meet : State → ℕ → List ℕ → Result Journey Refusal
meet w p text = meeting (map (player_meant w p) (parts_of text))
