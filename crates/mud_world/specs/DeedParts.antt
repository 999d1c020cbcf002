-- The parts of deeds: names, keys and texts.
use Rattle.std.specs.Prelude.{IsTrue, IfSome}
use Rattle.mud_key.specs.Name.{IsName}
use Rattle.mud_key.specs.Names.{AreNames}
use Rattle.mud_key.specs.Tree.{IsKey}
use Rattle.mud_world.specs.Speech.{is_speech}
use Rattle.mud_world.specs.declared.change.Target.{Target}
use Rattle.mud_world.specs.declared.change.Target.TheVariants.{New, Old}
use Rattle.mud_world.specs.declared.change.Deed.{Deed}
use Rattle.mud_world.specs.declared.change.Deed.TheVariants.{Dig, Make, Lock, Player, Rename}
use Rattle.mud_world.specs.declared.change.Deed.TheVariants.{Say, Emote}

-- the names of a new room
abbrev pub IsTarget : Target → Type 0
IsTarget (New names) = AreNames names
IsTarget (Old room) = Unit {0}

-- the names, keys and texts of a deed are valid; the types ensure it for every deed
abbrev pub HasParts : Deed → Type 0
HasParts (Dig target doors) = IsTarget target × IfSome doors (λ d. AreNames d.out × IfSome d.back AreNames)
HasParts (Make names) = AreNames names
HasParts (Player name) = IsName name
HasParts (Lock object key) = IsKey key
HasParts (Rename object names) = AreNames names
HasParts (Say text) = IsTrue (is_speech text)
HasParts (Emote text) = IsTrue (is_speech text)
HasParts other = Unit {0}
