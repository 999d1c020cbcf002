-- A survey for programs: a JSON object (RFC 8259) in one line, with the numbers of what was found.
use Rattle.std.specs.Prelude.{ℕ, List, ◌++◌, codes}
use Rattle.std.specs.Fmt.{decimal}
use Rattle.std.specs.List.{join_by}
use Rattle.mud_survey.specs.declared.survey.Stranded.{Stranded}
use Rattle.mud_survey.specs.declared.survey.Survey.{Survey}

-- an array
abbrev pub array : {A : Type 0} → (A → List ℕ) → List A → List ℕ
array text xs = codes "[" ++ join_by text (codes ",") xs ++ codes "]"

-- a player, and the room from which the player has no way back
abbrev pub stranded_json : Stranded → List ℕ
stranded_json s = codes "{\"player\":" ++ decimal s.player ++ codes ",\"room\":" ++ decimal s.room ++ codes "}"

-- the version, the players, and the findings
abbrev pub json_text : ℕ → List ℕ → Survey → List ℕ
json_text version ps s =
    codes "{\"version\":" ++ decimal version ++ codes ",\"players\":" ++ array decimal ps
    ++ codes ",\"rooms\":" ++ array decimal s.rooms.items ++ codes ",\"exits\":" ++ array decimal s.exits.items
    ++ codes ",\"one_way\":" ++ array decimal s.one_way.items
    ++ codes ",\"no_way_back\":" ++ array stranded_json s.no_way_back.items
    ++ codes ",\"keys\":" ++ array decimal s.keys.items ++ codes ",\"things\":" ++ array decimal s.things.items
    ++ codes "}\n"
