-- The answers about a world, as bytes.
use Rattle.std.specs.Prelude.{ℕ, not, List, [], ◌++◌, filter, codes, decimal, Option, if◌then◌else◌}
use Rattle.std.specs.Option.{option_map_or, option_and_then}
use Rattle.mud_key.specs.Printed.{printed, by_text}
use Rattle.mud_world.specs.declared.record.Kind.{Kind}
use Rattle.mud_world.specs.declared.record.Kind.TheVariants.{Room, Exit}
use Rattle.mud_rules.specs.declared.verdict.View.{View}
use Rattle.mud_rules.specs.declared.verdict.View.TheVariants.{Look, LookAt, Inventory, KeyOf, Version, Quit}
use Rattle.mud_world.specs.State.{State, record_at, place_of, is_number, contents_of, leaving_of, key_of}
use Rattle.mud_rules.specs.Matches.{is_empty}
use Rattle.mud_rules.specs.ObjectLists.{entry_text, object_list, listed_under}

-- the description of a kind: the exits of a room, or the ends and the cost of an exit
abbrev pub kind_text : State → ℕ → Kind → List ℕ
kind_text w n Room = listed_under w (codes "exits ") (leaving_of w n)
kind_text w n (Exit p) =
    codes "\n  from #" ++ decimal p.source ++ codes " to #" ++ decimal p.destination ++ codes " cost " ++ decimal p.cost
kind_text w n other = []

-- the description of object n; its contents are listed without the player who looks
abbrev pub look_text : State → Option ℕ → ℕ → List ℕ
look_text w player n =
    entry_text w n
    ++ listed_under w (codes "contents ") (filter (λ o. not (is_number o player)) (contents_of w n))
    ++ option_map_or (λ r. kind_text w n r.kind) (record_at w n) []

-- the things that lie directly in the player, or the word for none
abbrev pub inventory_text : State → ℕ → List ℕ
inventory_text w player =
    codes "inventory "
    ++ (if is_empty (contents_of w player) then codes "nothing" else object_list w (contents_of w player))

abbrev pub key_of_text : State → ℕ → List ℕ
key_of_text w n =
    codes "key of #" ++ decimal n ++ codes " is "
    ++ option_map_or (λ key. printed (by_text key)) (key_of w n) (codes "nothing")

-- the answer to a view; a guest sees no room and has no inventory
abbrev pub show_text : State → Option ℕ → View → List ℕ
show_text w player Look = option_map_or (look_text w player) (option_and_then (place_of w) player) []
show_text w player (LookAt n) = look_text w player n
show_text w player Inventory = option_map_or (inventory_text w) player []
show_text w player (KeyOf n) = key_of_text w n
show_text w player Version = codes "version"
show_text w player Quit = codes "bye"
