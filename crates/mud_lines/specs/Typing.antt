-- The effect of lines that one player types alone in a world.
use Rattle.std.specs.Prelude.{◌≡◌, ℕ, ◌≤◌, List, ◌++◌, length, All, Contains, Some, fold, if◌then◌else◌}
use Rattle.std.specs.List.{flat_map}
use Rattle.mud_words.specs.Parse.{parse_of}
use Rattle.mud_world.specs.State.{State}
use Rattle.mud_world.specs.Opening.{opening_state}
use Rattle.mud_world.specs.Legal.{after, is_arrival}
use Rattle.mud_rules.specs.declared.verdict.Verdict.{Verdict}
use Rattle.mud_rules.specs.declared.verdict.Verdict.TheVariants.{Change, Become}
use Rattle.mud_rules.specs.Table.{decision}
use Rattle.mud_chron.specs.Text.{line_feed}
use Rattle.mud_lines.specs.declared.typist.TheConstants.{MOST_LINE}

-- a world, and the player who types in it
pub record Scene : Type 0 where
  pub world : State
  pub player : ℕ

-- the effect of a verdict: a change is made; a new player, or one that the typist becomes, types from then on
abbrev pub after_verdict : Scene → Verdict → Scene
after_verdict s (Change c) =
    record { world = after s.world c; player = if is_arrival c.deed then c.actor else s.player }
after_verdict s (Become p) = record { world = s.world; player = p }
after_verdict s other = s

-- the effect of a line
abbrev pub after_line : Scene → List ℕ → Scene
after_line s line = after_verdict s (decision s.world (Some s.player) (parse_of line))

-- the effect of lines in order
abbrev pub after_lines : Scene → List (List ℕ) → Scene
after_lines s lines = fold after_line s lines

-- #1 types in the opening world
abbrev pub opening_scene : Scene
opening_scene = record { world = opening_state; player = 1 }

-- the text of lines, each with its end
abbrev pub lines_text : List (List ℕ) → List ℕ
lines_text lines = flat_map (λ line. line ++ line_feed) lines

-- short enough for a line, and without an end in it
abbrev pub IsLine : List ℕ → Type 0
IsLine line = (length line ≤ MOST_LINE) × (Contains line 10 → ⊥)

-- typed by #1 in the opening world, the lines lead to this world
pub record LeadTo (lines : List (List ℕ)) (w : State) : Type 0 where
  pub leads : (after_lines opening_scene lines).world ≡ w
  pub are : All IsLine lines
