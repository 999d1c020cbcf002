-- The lines typed so far.
use Rattle.std.specs.Prelude.{◌≡◌, map, All, string_bytes}
use Rattle.mud_lines.specs.declared.typist.Typist.{Typist}
use Rattle.mud_lines.specs.Typing.{Scene, after_lines, opening_scene, IsLine}

-- the world and the player so far
abbrev pub scene_of : Typist → Scene
scene_of t = record { world = t.world; player = t.player }

-- they are those to which the lines lead
pub record IsTyped (t : Typist) : Type 0 where
  pub is : after_lines opening_scene (map string_bytes t.lines.items) ≡ scene_of t
  pub are : All IsLine (map string_bytes t.lines.items)
