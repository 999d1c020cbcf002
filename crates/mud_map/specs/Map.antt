-- The rooms and exits of a world as a graph in DOT.
use Rattle.std.specs.Prelude.{ℕ, Bool, false, nat_eq, List, [], ◌++◌, codes, get_or, Option, Some, None, if◌then◌else◌}
use Rattle.std.specs.Option.{option_map_or}
use Rattle.std.specs.Fmt.{decimal}
use Rattle.std.specs.List.{flat_map, list_any}
use Rattle.mud_key.specs.Tree.{Tree}
use Rattle.mud_key.specs.Printed.{number_text, by_text, printed}
use Rattle.mud_world.specs.Kinds.{is_room_kind, kind_passage}
use Rattle.mud_world.specs.State.{State, is_number}
use Rattle.mud_world.specs.declared.record.Passage.{Passage}
use Rattle.mud_world.specs.declared.record.Record.{Record}
use Rattle.mud_roads.specs.declared.label.Label.{Label}
use Rattle.mud_cert.specs.Certificate.{Account, Certificate}
use Rattle.mud_cert.specs.declared.cert.Conclusion.{Conclusion}
use Rattle.mud_cert.specs.declared.cert.Conclusion.TheVariants.{Meet}
use Rattle.mud_map.specs.Quotes.{in_quotes}

-- the parts drawn in a map: the claims about some players, and the meeting room, if there is one
pub record Drawing : Type 0 where
  pub accounts : List Account
  pub meeting : Option ℕ

-- the drawing with these parts
abbrev pub drawing : List Account → Option ℕ → Drawing
drawing accounts meeting = record { accounts = accounts; meeting = meeting }

-- the first name of an object, and its number
abbrev pub title_text : ℕ → Record → List ℕ
title_text n r = get_or r.names 0 [] ++ codes " " ++ number_text n

-- the cost for a player to reach the room, on a line of its own, if this is the room's label
abbrev pub cost_text : ℕ → ℕ → ℕ × Label → List ℕ
cost_text room player e =
    if nat_eq e.0 room then codes "\n" ++ number_text player ++ codes ": " ++ decimal e.1.cost else []

-- the player's labels of the room
abbrev pub label_text : ℕ → Account → List ℕ
label_text room a = flat_map (cost_text room a.player) a.labels

-- the text inside room n
abbrev pub room_text : List Account → ℕ → Record → List ℕ
room_text accounts n r = title_text n r ++ flat_map (label_text n) accounts

-- the text at exit n
abbrev pub exit_text : ℕ → Record → Passage → List ℕ
exit_text n r p = title_text n r ++ codes " (" ++ decimal p.cost ++ codes ")"

-- a locked object is dashed, and its key is a tooltip
abbrev pub lock_text : Option (Tree ℕ) → List ℕ
lock_text None = []
lock_text (Some key) = codes " style=dashed tooltip=" ++ in_quotes (printed (by_text key))

-- the meeting room has a second border
abbrev pub meeting_text : Option ℕ → ℕ → List ℕ
meeting_text meeting n = if is_number n meeting then codes " peripheries=2" else []

-- the account's walk uses the exit
abbrev pub walks : Account → ℕ → Bool
walks a exit = option_map_or (list_any (nat_eq exit)) a.walk false

-- some account's walk uses the exit
abbrev pub is_walked : List Account → ℕ → Bool
is_walked accounts exit = list_any (λ a. walks a exit) accounts

-- an exit of a walk is red
abbrev pub walk_text : List Account → ℕ → List ℕ
walk_text accounts exit = if is_walked accounts exit then codes " color=red penwidth=2" else []

-- a label with this text
abbrev pub label_part : List ℕ → List ℕ
label_part text = codes " [label=" ++ in_quotes text

-- the node of a room
abbrev pub node_text : Drawing → ℕ → Record → List ℕ
node_text d n r =
    decimal n ++ label_part (room_text d.accounts n r) ++ lock_text r.key ++ meeting_text d.meeting n ++ codes "];\n"

-- the two ends of an exit
abbrev pub ends_text : Passage → List ℕ
ends_text p = decimal p.source ++ codes " -> " ++ decimal p.destination

-- the edge of an exit
abbrev pub edge_text : Drawing → ℕ → Record → Passage → List ℕ
edge_text d n r p =
    ends_text p ++ label_part (exit_text n r p) ++ lock_text r.key ++ walk_text d.accounts n ++ codes "];\n"

-- a room is a node
abbrev pub node_of : Drawing → ℕ → Record → List ℕ
node_of d n r = if is_room_kind r.kind then node_text d n r else []

-- an exit is an edge
abbrev pub edge_of : Drawing → ℕ → Record → List ℕ
edge_of d n r = option_map_or (edge_text d n r) (kind_passage r.kind) []

-- the nodes and then the edges of all records, sorted by number: one for each room and each exit, and no others
abbrev pub map_text : State → Drawing → List ℕ
map_text w d =
    codes "digraph world {\nnode [shape=box];\n" ++ flat_map (λ e. node_of d e.0 e.1) w.objects
    ++ flat_map (λ e. edge_of d e.0 e.1) w.objects ++ codes "}\n"

-- the meeting room of a certificate
abbrev pub meeting_of : Conclusion → Option ℕ
meeting_of (Meet (Some m)) = Some m.room
meeting_of other = None

-- the drawing of a certificate
abbrev pub drawing_of : Certificate → Drawing
drawing_of c = drawing c.members (meeting_of c.conclusion)

-- the empty drawing
abbrev pub blank : Drawing
blank = drawing [] None
