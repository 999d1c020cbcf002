-- The texts of the guide; LF ends a line.
use Rattle.std.specs.Prelude.{ℕ, List, ◌∷◌, ◌++◌, Option, None, Some, codes, decimal}
use Rattle.std.specs.List.{flat_map}
pub use Rattle.mud_key.specs.Printed.{number_text as object}
use Rattle.mud_roads.specs.declared.label.Step.{Step}
use Rattle.mud_key.specs.declared.codes.TheConstants.{LF}
use Rattle.mud_cert.specs.declared.cert.Meeting.{Meeting}
use Rattle.mud_guide.specs.Legs.{Leg}
use Rattle.mud_cert.specs.Text.{exits_text}
use Rattle.mud_guide.specs.Ways.{exits_of, cost_of}

-- ` cost 7 by #5 #6`, or ` no way`
abbrev pub way_text : Option (List Step) → List ℕ
way_text None = codes " no way"
way_text (Some steps) = codes " cost " ++ (decimal (cost_of steps) ++ (codes " by" ++ exits_text (exits_of steps)))

-- `route #0 to #2 cost 7 by #5 #6`, or `route #0 to #2 no way`
abbrev pub route_text : ℕ → Leg → List ℕ
route_text to j = codes "route " ++ (object j.from ++ (codes " to " ++ (object to ++ way_text j.way)))

-- ` at #0 cost 3` and a line for each member, `  #1 from #0 cost 3 by #5`; or ` no meeting`
abbrev pub place_text : Option Meeting → List Leg → List ℕ
place_text None legs = codes " no meeting"
place_text (Some p) legs =
    codes " at " ++ (object p.room ++ (codes " cost " ++ (decimal p.cost ++ flat_map (λ j.
    LF ∷ codes "  " ++ object j.player ++ codes " from " ++ object j.from ++ way_text j.way) legs)))

-- `meet #1 #2 at #0 cost 3` and the lines of the members, or `meet #1 #2 no meeting`
abbrev pub meet_text : Option Meeting → List Leg → List ℕ
meet_text place legs =
    codes "meet" ++ (flat_map (λ j. codes " " ++ object j.player) legs ++ place_text place legs)
